-- What an engine's program prints, page by page.
use Rattle.std.specs.Prelude.{Bool, false, true, List, [], None, Option, Some, ℕ, length, take}
use Rattle.std.proofs.Math.Option.{none, some}
use Rattle.std.proofs.Math.Option as math
use Rattle.lists.specs.Lists.{concat_map}
use Rattle.spec.specs.Record.{decoded}
use Rattle.spec.specs.Refusal.{Answer, Refused, accepted, file_fault, refused}
use Rattle.compose.specs.Tuples.{Engine}
use Rattle.classifier.specs.Count.{Counts, verdict_of}
use Rattle.classifier.specs.Page.{Page, Start, due_tuples}
use Rattle.listing.specs.Text.{end_line, refused_line, verdict_line}

-- The last line: the counts, or the refusal.
abbrev pub last_line : Answer Refused Counts → List ℕ
last_line (refused r) = refused_line r
last_line (accepted c) = end_line c

-- How many fields an accepted file has; 0 for a refused one.
abbrev pub fields_if : math.Option Refused → ℕ → ℕ
fields_if none n = n
fields_if (some r) n = 0

unfoldable pub fields_or : List ℕ → ℕ
fields_or file = fields_if (file_fault file) (length (decoded file).fields)

-- The tuple, unless it is the last.
abbrev pub unless_done : Bool → List ℕ → math.Option (List ℕ)
unless_done false t = some t
unless_done true t = none

-- The tuple after which verdicts follow; none where the page is the last, or refused.
abbrev pub next_of : Answer Refused Page → math.Option (List ℕ)
next_of (refused r) = none
next_of (accepted p) = unless_done p.done p.last

abbrev pub as_next : Option (List ℕ) → math.Option (List ℕ)
as_next None = none
as_next (Some t) = some t

-- The lines of the verdicts of a page; none where it is refused.
abbrev pub page_lines : Engine → List ℕ → Start → Answer Refused Page → List ℕ
page_lines engine file start (refused r) = []
page_lines engine file start (accepted p) = concat_map (λ t. verdict_line (verdict_of engine (decoded file) t)) (take p.count (due_tuples engine (decoded file) start))
