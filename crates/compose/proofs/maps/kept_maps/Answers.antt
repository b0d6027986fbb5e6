-- `compose::maps::kept_maps` meets its contract. The invariant: the maps kept so far, with the constraints left, make the kept maps.
use mathlib.Core.List.{List}
use mathlib.Core.Path.{◌∙◌, ◌≡◌, ap, subst, sym}
use Prim.Native.Nat.{◌+◌}
use native.Mathlib.Numerals.{add-one}
use native.Mathlib.Omega.{arith}
use lib.ListN.{get_or}
use borrow.Author.Rules.{rules}
use Rattle.spec.specs.Code.{as_kind}
use Rattle.spec.specs.declared.kinds.Kind.TheVariants as kinds
use Rattle.registry.specs.Code.{HeadIn}
use Rattle.compose.specs.Code.{MaybeMap}
use Rattle.compose.proofs.Kept.{Kept, kept_cross, kept_end, kept-none, kept_other}
use Rattle.compose.proofs.maps.kept_maps.Goals.{else-eq, then-eq}
use Rattle.compose.proofs.maps.kept_maps.Goals as goal

pub loop-k-init : goal.loop-k-init
loop-k-init c = subst (λ (maps : List MaybeMap). Kept c.args.rules.file.now c.args.rules.heads.now c.args.rules.fields maps 0) (sym c.requires.1) (kept-none c.args.rules.file.now c.args.rules.heads.now c.args.rules.fields)

pub loop-k-preserved : goal.loop-k-preserved
loop-k-preserved c =
    let l = c.loop-k in
    let head : HeadIn c.args.rules.file.now (get_or c.args.rules.heads.now l.k 0) (get_or c.args.rules.heads.now (l.k + 1) 0) c.args.rules.fields = rw (add-one l.k) (c.args.rules.inside l.k (omega arith)) in
    elim c.if-eq.branch [
      | then-eq u ↦ let e : c.kind_at.result ≡ kinds.Cross = search rules in rw u.maps-is (kept_cross c.args.rules.file.now c.args.rules.heads.now c.args.rules.fields l.maps l.k l.invariant (omega arith) c.requires.0 head u.a_at.result u.b_at-f.result u.a_at.ensures.0 u.b_at-f.ensures.0 (sym c.kind_at.ensures.kind ∙ ap as_kind e))
      | else-eq u ↦ let e : c.kind_at.result ≡ kinds.Cross → ⊥ = search rules in rw u.maps-is (kept_other c.args.rules.file.now c.args.rules.heads.now c.args.rules.fields l.maps l.k l.invariant (omega arith) c.kind_at.result c.kind_at.ensures.kind e)
    ]

pub returns : goal.returns
returns c =
    let l = c.loop-k in
    record { maps = kept_end c.args.rules.file.now c.args.rules.heads.now c.args.rules.fields l.maps l.k l.invariant (omega arith); inside = l.invariant.inside }
