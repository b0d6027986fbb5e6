-- `compose::filters::first_filter` meets its contract. The invariant: the constraints before k narrow nothing.
use Rattle.std.proofs.Common.{◌≡◌, List, ℤ, drop}
use mathlib.Core.List.{foldl}
use Rattle.compose.specs.Maps.{narrow_by}
use Rattle.compose.specs.Code.{constraints_in}
use Rattle.compose.proofs.filters.first_filter.Given as goal

abbrev pub invariant-loop-k : goal.invariant-loop-k
invariant-loop-k l = (list : List ℤ) → foldl (narrow_by l.f) list (constraints_in l.rules.file.now l.rules.heads.now) ≡ foldl (narrow_by l.f) list (constraints_in l.rules.file.now (drop l.k l.rules.heads.now))
