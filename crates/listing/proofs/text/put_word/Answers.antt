-- The part of the buffer holds the word.
use mathlib.Core.List.{List, ◌++◌, append_assoc}
use mathlib.Core.Path.{◌∙◌, ◌≡◌, ap, ap₂, sym}
use Prim.Native.Nat.{◌+◌, ◌-◌, ℕ}
use native.Mathlib.Omega.{arith}
use lib.ListN.{drop, length, take}
use lib.Seq.{drop-drop, sets-eq}
use Rattle.listing.proofs.text.put_word.Goals as goal

pub returns-clause-out_after : goal.returns-clause-out_after
returns-clause-out_after c =
    let args = c.args in
    let old = args.out.now in
    let word = args.word.now in
    let back : drop (args.at + length word - args.at) (drop args.at old) ≡ drop (args.at + length word) old = drop-drop (args.at + length word - args.at) args.at old ∙ ap (λ (k : ℕ). drop k old) (let e : args.at + (args.at + length word - args.at) ≡ args.at + length word = omega arith in e) in
    let inner = ap₂ (λ (new rest : List ℕ). new ++ rest) c.copy_from_slice.ensures.after back in
    ap (λ (rest : List ℕ). take args.at old ++ rest) inner ∙ sym (append_assoc (take args.at old) word (drop (args.at + length word) old)) ∙ sym (sets-eq word old args.at c.requires)
