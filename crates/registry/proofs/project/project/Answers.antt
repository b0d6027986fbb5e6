-- `registry::project::project` meets its contract; what `search` leaves of it: the projector and its axes as they were read.
use Rattle.std.proofs.Common.{◌∙◌, ◌≡◌, ap, ap₂, sym, subst, ◌-◌, ◌/◌, suc, ℕ, ℤ, pos, ◌-ℤ◌, List, map, get_or, length, take, drop, true, arith}
use native.Mathlib.Numerals.{add-one}
use borrow.Author.Rules.{sfits_of}
use lib.ListN.{length-drop}
use lib.Seq.{take_all}
use lib.Signed.{le_z}
use mir.Syntax.{w64}
use mir.ValLaws.{to_z-of_z}
use Rattle.lists.proofs.All.{All, All_at}
use Rattle.spec.proofs.Multiples.{held, scale_bound}
use Rattle.spec.specs.Record.{Record, axis_of, offset_by, record_at, records_of}
use Rattle.spec.specs.Refusal.{on_scale}
use Rattle.spec.proofs.Fields.{length_records}
use Rattle.registry.specs.Check.{value_at}
use Rattle.registry.specs.Code.{AxisIn, project_in}
use Rattle.registry.specs.Project.{packed}
use Rattle.registry.proofs.Scale.{small_fits}
use Rattle.registry.proofs.project.project.Goals.{After-part-axes}
use Rattle.registry.proofs.project.project.Goals as goal

-- the head, its members and the row
module _ (c : After-part-axes) where
  abbrev h : Record
  h = record_at c.args.file.now c.args.head

  abbrev ms : List Record
  ms = take (length c.args.file.now / 32 - suc c.args.head) (drop (suc c.args.head) (records_of c.args.file.now))

  abbrev value : ℤ
  value = get_or c.args.row.now c.a_at.result (pos 0)

  value-is : value ≡ value_at c.args.row.now h.a
  value-is = ap (λ (f : ℕ). get_or c.args.row.now f (pos 0)) c.a_at.ensures.0

  scaled : on_scale value ≡ true
  scaled = rw value-is (All_at (pos 0) c.args.row.now c.requires.0.scaled h.a c.requires.1.a_below)

  value_read : held value ≡ value
  value_read = to_z-of_z w64 value (small_fits value (omega (arith, scale_bound value scaled)))

  -- the axes are all records that follow
  axes-read : records_of c.part-axes.result.now ≡ ms
  axes-read = c.part-axes.ensures.records ∙ rw (add-one c.args.head)

  axes-whole : ms ≡ drop (suc c.args.head) (records_of c.args.file.now)
  axes-whole = let file = c.args.file.now in take_all (length file / 32 - suc c.args.head) (drop (suc c.args.head) (records_of file)) (omega (arith, length-drop (suc c.args.head) (records_of file), length_records file))

pub decompose-requires : goal.decompose-requires
decompose-requires c =
    let t = (goal.at.decompose-requires c).After-part-axes in
    let p = c.p_at in
    let q = c.q_at in
    let base = ap on_scale (to_z-of_z w64 p.result (sfits_of p.type_inv) ∙ p.ensures) ∙ c.requires.1.base_in in
    let offset = ap (λ (x : ℤ). le_z x (pos 63)) (to_z-of_z w64 q.result (sfits_of q.type_inv) ∙ q.ensures) ∙ c.requires.1.offset_in in
    (rw (value_read t) (scaled t), base, offset, subst (All AxisIn) (sym (axes-read t ∙ axes-whole t)) c.requires.1.axes_in)

pub returns-in-Decompose : goal.returns-in-Decompose
returns-in-Decompose c =
    let t = (goal.at.returns-in-Decompose c).After-part-axes in
    let p = c.p_at in
    let q = c.q_at in
    c.decompose.ensures
    ∙ ap₂ (λ (o : ℤ) (x : ℤ). packed (offset_by o) (map axis_of (records_of c.part-axes.result.now)) x) (to_z-of_z w64 q.result (sfits_of q.type_inv) ∙ q.ensures)
    (ap₂ ◌-ℤ◌ (value_read t ∙ value-is t) (to_z-of_z w64 p.result (sfits_of p.type_inv) ∙ p.ensures))
    ∙ ap (λ (rs : List Record). packed (offset_by (h t).q) (map axis_of rs) (value_at c.args.row.now (h t).a -ℤ (h t).p)) (axes-read t)
    ∙ ap (λ k. project_in k (h t) (ms t) c.args.row.now) c.in-Decompose.ensures.kind
