-- What the program prints: how many fields a file has, a line at the start of the text, and the lines of a page from its words.
use Rattle.std.specs.Prelude.{Ok}
use mathlib.Core.Bool.{Bool, false, true}
use mathlib.Core.List.{List, [], ◌++◌, ◌∷◌, map}
use mathlib.Core.Option.{Option, get_or, none, some}
use mathlib.Core.Path.{◌∙◌, ◌≡◌, ap, ap₂, refl, subst, sym}
use Prim.Native.Nat.{◌*◌, ◌+◌, ◌/◌, ◌<◌, ◌≤◌, suc, zero, ◌^◌, ℕ}
use native.Mathlib.Omega.{arith}
use native.Mathlib.Nat.{min-le_left, min-le_right, suc-mul}
use lib.IntN.{ℤ}
use lib.ListN.{drop, length, length-append, take}
use lib.Seq.{length-take-le}
use Rattle.classifier.specs.Code.{as_page, paged}
use Rattle.classifier.specs.declared.writing.Page as code
use Rattle.listing.specs.Counts.{IsPrefixLen}
use Rattle.lists.specs.Lists.{concat_map, eq_list}
use Rattle.lists.proofs.All.{All, All-filter, All_imp, All-mapped, []ᴬ, ◌∷ᴬ◌}
use Rattle.spec.specs.Code.{fault_number}
use Rattle.spec.specs.declared.refusal.Fault.{Fault}
use Rattle.spec.specs.declared.refusal.Fault.TheVariants as faults
use Rattle.spec.specs.Record.{decoded}
use Rattle.spec.specs.Refusal.{Refused, accepted, answer, file_fault, unless_refused}
use Rattle.spec.specs.Spec.{Spec}
use Rattle.spec.proofs.Accepted.{decoded-few, file_good}
use Rattle.spec.proofs.Named.{width}
use Rattle.spec.proofs.Refusals.{▷_left}
use Rattle.compose.specs.Force.{force, forcing_order}
use Rattle.compose.specs.Tuples.{Engine, emitted, lists_of, values, padded}
use Rattle.compose.proofs.Emitted.{candidates_length, emitted_candidates, held, length-lists_of}
use Rattle.compose.proofs.Forcing.{length_forced}
use Rattle.compose.proofs.Found.{no_emitted}
use Rattle.compose.proofs.Rows.{length-values}
use Rattle.evaluate.specs.Verdict.{Verdict}
use Rattle.classifier.specs.Count.{count_fault, verdict_of}
use Rattle.classifier.specs.Count as counting
use Rattle.classifier.specs.Page.{Page, Start, after_tuple, beginning, due, due_tuples, fit_count, following, page_answer, page_fault, page_of, page_output, page_words, rest_if, words, words_of}
use Rattle.listing.specs.Text.{decimal, end_line, newline, refused_line, spaced, verdict_line}
use Rattle.listing.specs.Words.{after_if, can_list, lines_of, put_if}
use Rattle.listing.proofs.Buffer.{put_first}
use Rattle.listing.proofs.Decimal.{decimal_short}
use Rattle.listing.proofs.Lines.{lines_fit, lines_front, lines_words, listed}
use Rattle.program.specs.Printed.{fields_if, fields_or, page_lines}
use Rattle.classifier.proofs.Wording.{words-length}

-- ---- how many fields
pub fields-refused : (file : List ℕ) (r : Refused) → file_fault file ≡ some r → 0 ≡ fields_or file
unfolding fields_or
fields-refused file r e = ap (λ (o : Option Refused). fields_if o (length (decoded file).fields)) (sym e)

pub fields-accepted : (file : List ℕ) (n : ℕ) → file_fault file ≡ none → n ≡ length (decoded file).fields → n ≡ fields_or file
unfolding fields_or
fields-accepted file n e h = h ∙ ap (λ (o : Option Refused). fields_if o (length (decoded file).fields)) (sym e)

pub fields-few : (file : List ℕ) → fields_or file ≤ 32
unfolding fields_or
fields-few file = go (file_fault file) refl
  where
    go : (o : Option Refused) → file_fault file ≡ o → fields_if o (length (decoded file).fields) ≤ 32
    go none e = (decoded-few file (file_good file e).whole).0
    go (some r) e = omega arith

-- ---- a line at the start
-- A line that was put where there is room stands at the start.
put_within : (old new line : List ℕ) (n : ℕ) (b : Bool) → b ≡ true → new ≡ put_if b line 0 old → n ≡ after_if b line 0 → n ≤ length old → (IsPrefixLen n new) × (take n new ≡ line)
put_within old new line n false e put end room = let z : ◌≡◌ {A = ℕ} 0 1 = cc in absurd (omega arith)
put_within old new line n true e put end room = put_first old new line n put end room

pub put_line_lem : (old new line : List ℕ) (n : ℕ) (b : Bool) → b ≡ true → new ≡ put_if b line 0 old → n ≡ after_if b line 0 → length line ≤ length old → (IsPrefixLen n new) × (take n new ≡ line)
put_line_lem old new line n false e put end room = let z : ◌≡◌ {A = ℕ} 0 1 = cc in absurd (omega arith)
put_line_lem old new line n true e put end room = put_first old new line n put end (omega arith)

-- ---- the verdicts of a page
tuples-long : (engine : Engine) (s : Spec) → All (λ t. length t ≡ width s) (emitted engine s)
tuples-long engine s = go (width s) refl
  where
    go : (n : ℕ) → width s ≡ n → All (λ t. length t ≡ width s) (emitted engine s)
    go zero e = subst (All (λ t. length t ≡ width s)) (sym (no_emitted engine s e)) []ᴬ
    go (suc n) e = subst (All (λ t. length t ≡ width s)) (sym (emitted_candidates engine s (omega arith))) (All-filter (held engine s) (candidates_length engine s))

following-all : {P : List ℕ → Type 0} (t : List ℕ) {ts : List (List ℕ)} → All P ts → All P (get_or (following t ts) [])
following-all t []ᴬ = []ᴬ
following-all {P} t (◌∷ᴬ◌ {x = u} {xs = ts} h hs) = go (eq_list (padded u) t) (following-all t hs)
  where
    go : (b : Bool) → All P (get_or (following t ts) []) → All P (get_or (rest_if b ts (following t ts)) [])
    go true a = hs
    go false a = a

due-long : (engine : Engine) (s : Spec) (start : Start) → All (λ t. length t ≡ width s) (due_tuples engine s start)
unfolding due
due-long engine s beginning = tuples-long engine s
due-long engine s (after_tuple t) = following-all t (tuples-long engine s)

take-all_of : {P : List ℕ → Type 0} (n : ℕ) {ts : List (List ℕ)} → All P ts → All P (take n ts)
take-all_of zero a = []ᴬ
take-all_of (suc n) []ᴬ = []ᴬ
take-all_of (suc n) (h ∷ᴬ hs) = h ∷ᴬ take-all_of n hs

-- A verdict on a tuple has as many values as there are fields.
verdict_long : (engine : Engine) (s : Spec) (t : List ℕ) → length t ≡ width s → length (verdict_of engine s t).values ≡ width s
unfolding verdict_of force
verdict_long engine s t h = length_forced (forcing_order engine s.constraints) (values (lists_of engine s) t) ∙ length-values (lists_of engine s) t (h ∙ sym (length-lists_of engine s)) ∙ length-lists_of engine s

concat_mapped : {A B C : Type 0} (f : B → List C) (g : A → B) (xs : List A) → concat_map (λ x. f (g x)) xs ≡ concat_map f (map g xs)
concat_mapped f g [] = refl
concat_mapped f g (x ∷ xs) = ap (λ l. f (g x) ++ l) (concat_mapped f g xs)

length-mapped : {A B : Type 0} (g : A → B) (xs : List A) → length (map g xs) ≡ length xs
length-mapped g [] = refl
length-mapped g (x ∷ xs) = ap suc (length-mapped g xs)

-- The words of verdicts on n fields are n + 4 for each.
words_many : (n : ℕ) {vs : List Verdict} → All (λ v. length (words v) ≡ words_of n) vs → length (concat_map words vs) ≡ length vs * words_of n
words_many n []ᴬ = omega arith
words_many n (◌∷ᴬ◌ {x = v} {xs = vs} h hs) = omega (arith, length-append (words v) (concat_map words vs), h, words_many n hs, suc-mul (length vs) (words_of n))

-- ---- how long the last line is
-- A number of 64 bits, with the space before it.
number_short : (n : ℕ) → n < 2 ^ 64 → length (spaced (decimal n)) ≤ 21
number_short n h = omega (arith, decimal_short n 19 (omega arith))

pub end_short : (c : counting.Counts) → c.total < 2 ^ 64 → c.emitted < 2 ^ 64 → c.passed < 2 ^ 64 → c.failed < 2 ^ 64 → length (end_line c) ≤ 88
unfolding end_line
end_short c a b d e =
    let t = spaced (decimal c.total) in
    let m = spaced (decimal c.emitted) in
    let p = spaced (decimal c.passed) in
    let f = spaced (decimal c.failed) in
    omega (arith, number_short c.total a, number_short c.emitted b, number_short c.passed d, number_short c.failed e, length-append f newline, length-append p (f ++ newline), length-append m (p ++ (f ++ newline)), length-append t (m ++ (p ++ (f ++ newline))))

pub refused_short : (r : Refused) → r.number < 2 ^ 64 → r.at < 2 ^ 64 → length (refused_line r) ≤ 50
unfolding refused_line
refused_short r a b =
    let n = spaced (decimal r.number) in
    let i = spaced (decimal r.at) in
    omega (arith, number_short r.number a, number_short r.at b, length-append i newline, length-append n (i ++ newline))

-- The number of a fault is small.
pub fault_small : (f : Fault) → fault_number f < 2 ^ 64
fault_small faults.WrongLength = omega arith
fault_small faults.UnknownKind = omega arith
fault_small faults.StrayByte = omega arith
fault_small faults.OutOfOrder = omega arith
fault_small faults.TooMany = omega arith
fault_small faults.NoSuchField = omega arith
fault_small faults.OffScale = omega arith
fault_small faults.EmptyDomain = omega arith
fault_small faults.BadPacking = omega arith
fault_small faults.TooLarge = omega arith
fault_small faults.ScratchShort = omega arith
fault_small faults.CyclicMaps = omega arith
fault_small faults.ChildlessKey = omega arith
fault_small faults.OutputShort = omega arith
fault_small faults.NotEmitted = omega arith
fault_small faults.NotASum = omega arith

-- ---- the lines of a page
accepted_told : (o : Option Refused) (x y : Page) → accepted y ≡ answer o x → (o ≡ none) × (y ≡ x)
accepted_told none x y e = let z : y ≡ x = cc in (refl, z)
accepted_told (some q) x y e = let z : ◌≡◌ {A = ℕ} 0 1 = cc in absurd (omega arith)

words_each : (n : ℕ) {vs : List Verdict} → All (λ v. length v.values ≡ n) vs → All (λ v. length (words v) ≡ words_of n) vs
words_each n a = All_imp (λ v (h : length v.values ≡ n). words-length v ∙ ap words_of h) a

module _ (engine : Engine) (file : List ℕ) (start : Start) (old : List ℤ) where
  abbrev s : Spec
  s = decoded file

  abbrev ts : List (List ℕ)
  ts = due_tuples engine s start

  abbrev fit : ℕ
  fit = fit_count s (length old) ts

  abbrev vs : List Verdict
  vs = map (verdict_of engine s) (take fit ts)

  verdicts-long : All (λ v. length v.values ≡ width s) vs
  verdicts-long = All-mapped (verdict_of engine s) (All_imp (λ t (h : length t ≡ width s). verdict_long engine s t h) (take-all_of fit (due-long engine s start)))

  verdicts_many : length vs ≡ fit
  verdicts_many = length-mapped (verdict_of engine s) (take fit ts) ∙ length-take-le fit ts (min-le_left (length ts) (length old / words_of (width s)))

  page_is : page_words engine s (length old) ts ≡ concat_map words vs
  unfolding page_words
  page_is = concat_mapped words (verdict_of engine s) (take fit ts)

  page_long : length (concat_map words vs) ≡ fit * words_of (width s)
  page_long = words_many (width s) (words_each (width s) verdicts-long) ∙ ap (λ (k : ℕ). k * words_of (width s)) verdicts_many

  page_fits : fit * words_of (width s) ≤ length old
  page_fits = lines_fit fit (words_of (width s)) (length old) (omega arith) (min-le_right (length ts) (length old / words_of (width s)))

  page_lines_lem : (rest : List ℤ) → lines_of fit (words_of (width s)) (concat_map words vs ++ rest) ≡ concat_map (λ t. verdict_line (verdict_of engine s t)) (take fit ts)
  page_lines_lem rest =
      lines_front fit (words_of (width s)) (concat_map words vs) rest (let e = page_long in omega arith)
      ∙ ap (λ (k : ℕ). lines_of k (words_of (width s)) (concat_map words vs)) (sym verdicts_many)
      ∙ lines_words (width s) verdicts-long ∙ sym (concat_mapped verdict_line (verdict_of engine s) (take fit ts))

  module _ (scratch : ℕ) (p : code.Page) (told : as_page (Ok p) ≡ page_answer engine scratch (length old) file start) where
    page_told : (page_fault engine scratch (length old) file start ≡ none) × (paged p ≡ page_of s (length old) ts start)
    unfolding page_answer
    page_told = accepted_told (page_fault engine scratch (length old) file start) (page_of s (length old) ts start) (paged p) told

    count_is : p.count ≡ fit
    unfolding page_of
    count_is = ap (λ (q : Page). q.count) page_told.1

    good : file_fault file ≡ none
    unfolding page_fault count_fault
    good = ▷_left (file_fault file) _ (▷_left (count_fault engine scratch file) _ page_told.0)

    output_is : page_output engine scratch file start old ≡ concat_map words vs ++ drop (length (concat_map words vs)) old
    unfolding page_output
    output_is =
        ap (λ (o : Option Refused). unless_refused o (page_words engine s (length old) ts ++ drop (length (page_words engine s (length old) ts)) old) old) page_told.0
        ∙ ap (λ (w : List ℤ). w ++ drop (length w) old) page_is

    -- A page: its lines stand at the start of the text.
    pub page_printed : (out : List ℤ) (n r : ℕ) (text new : List ℕ) → out ≡ page_output engine scratch file start old → n ≡ fields_or file → length old * 21 ≤ length text
        → new ≡ put_if (can_list text out p.count (n + 4)) (lines_of p.count (n + 4) out) 0 text → r ≡ after_if (can_list text out p.count (n + 4)) (lines_of p.count (n + 4) out) 0 → r ≤ length text
        → (IsPrefixLen r new) × (take r new ≡ page_lines engine file start (page_answer engine scratch (length old) file start))
    page_printed out n r text new eo en room put end fits =
        let wide : n ≡ width s = en ∙ sym (fields-accepted file (width s) good refl) in
        let rest = drop (length (concat_map words vs)) old in
        let is : out ≡ concat_map words vs ++ rest = eo ∙ output_is in
        let many : p.count * (n + 4) ≡ fit * words_of (width s) = ap₂ (λ (c k : ℕ). c * (k + 4)) count_is wide in
        let long : length out ≡ length (concat_map words vs) + length rest = ap (λ (l : List ℤ). length l) is ∙ length-append (concat_map words vs) rest in
        let can : can_list text out p.count (n + 4) ≡ true = listed text out p.count (n + 4) (omega arith) (omega (arith, many, long, page_long)) (omega (arith, many, page_fits, room)) in
        let lines : lines_of p.count (n + 4) out ≡ concat_map (λ t. verdict_line (verdict_of engine s t)) (take fit ts) =
        ap₂ (λ (c k : ℕ). lines_of c (k + 4) out) count_is wide ∙ ap (lines_of fit (words_of (width s))) is ∙ page_lines_lem rest
        in
        let stands = put_within text new (lines_of p.count (n + 4) out) r (can_list text out p.count (n + 4)) can put end fits in
        (stands.0, stands.1 ∙ lines ∙ ap (λ (k : ℕ). concat_map (λ t. verdict_line (verdict_of engine s t)) (take k ts)) (sym count_is) ∙ ap (page_lines engine file start) told)
