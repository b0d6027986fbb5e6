-- `evaluate::indexing::index_at` meets its contract.
use mathlib.Core.List.{List}
use mathlib.Core.Path.{◌∙◌, ◌≡◌, subst, sym}
use Prim.Native.Nat.{◌+◌, ◌-◌, ◌/◌, ◌≤◌, suc, ℕ}
use native.Mathlib.Numerals.{add-one}
use native.Mathlib.Omega.{arith}
use borrow.Rule.Slice.PartMut.{mid_len, put_mid}
use lib.ListN.{drop, length, set, take}
use Rattle.spec.specs.Record.{records_of}
use Rattle.registry.specs.Index.{IndexIn}
use Rattle.evaluate.specs.Code.{Unindexed}
use Rattle.evaluate.proofs.Marked.{index_marked, part_size, unindexed_marked}
use Rattle.evaluate.proofs.indexing.index_at.Goals.{After-part}
use Rattle.evaluate.proofs.indexing.index_at.Goals as goal

-- the members, as the part of the file that holds them
module _ (c : After-part) where
  abbrev run : List ℕ
  run = c.part.result.now

  run-read : records_of run ≡ take (c.args.end - suc c.args.head) (drop (suc c.args.head) (records_of c.args.file.now))
  run-read = c.part.ensures.records ∙ rw (add-one c.args.head)

  size : length run / 32 ≡ c.args.end - suc c.args.head
  size = part_size c.args.file.now run (suc c.args.head) c.args.end c.requires.1 run-read

  room : (cells : List ℕ) → c.args.end ≤ length cells → length (take (c.args.end - (c.args.head + 1)) (drop (c.args.head + 1) cells)) ≡ length run / 32
  room cells h = rw (add-one c.args.head) (mid_len (suc c.args.head) c.args.end cells h ∙ sym size)

pub index_run-requires : goal.index_run-requires
index_run-requires c =
    let t = (goal.at.index_run-requires c).After-part in
    let inside = t.requires.1 in
    let long = t.requires.2 in
    let same = t.requires.4 in
    (room t t.args.index.now (omega arith), room t t.args.spare.now (omega arith))

pub returns : goal.returns
returns c =
    let t = (goal.at.returns c).After-part in
    let r = c.index_run in
    let file = t.args.file.now in
    let index = t.args.index.now in
    let head = t.args.head in
    let end = t.args.end in
    let places = r.new.places in
    let inside = t.requires.1 in
    let long = t.requires.2 in
    let many : length places ≡ end - suc head = r.auto.places ∙ room t index (omega arith) ∙ size t in
    let whole = subst (λ (k : ℕ). IndexIn file (set (put_mid k (end - k) index places) head (4096 + end)) × Unindexed (set (put_mid k (end - k) index places) head (4096 + end)) end) (sym (add-one head)) (
      index_marked file index places (run t) head end t.requires.0 inside long t.requires.3 many r.ensures (size t) t.requires.6 t.requires.5 (run-read t),
      unindexed_marked file index places (run t) head end t.requires.0 inside long t.requires.3 many r.ensures (size t) t.requires.6,
    ) in record { index = whole.0; rest = whole.1 }
