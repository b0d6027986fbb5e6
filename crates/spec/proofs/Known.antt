-- A kind of the code that stands for a known kind is that one.
use mathlib.Core.Path.{◌≡◌, ap, sym}
use Rattle.spec.specs.Code.{as_kind}
use Rattle.spec.specs.Kind.{Kind, constraint, field, member, projector, unknown, assign, axis, bitmask, cross, decompose, disable, enable_mask, enable_set, eq, even, ge, gt, identity, item, key, le, lt, neq, oneof, pair, parity, range, sum, value}
use Rattle.spec.specs.declared.kinds.Kind as code
use Rattle.spec.specs.declared.kinds.Kind.TheVariants as kinds

-- The code's kind for each; of an unknown one the number is lost.
abbrev pub code_kind : Kind → code.Kind
code_kind unknown = kinds.Unknown 0
code_kind field = kinds.Field
code_kind (member value) = kinds.Value
code_kind (member item) = kinds.Item
code_kind (member pair) = kinds.Pair
code_kind (member key) = kinds.Key
code_kind (member disable) = kinds.Disable
code_kind (member assign) = kinds.Assign
code_kind (member axis) = kinds.Axis
code_kind (constraint range) = kinds.Range
code_kind (constraint even) = kinds.Even
code_kind (constraint eq) = kinds.Eq
code_kind (constraint neq) = kinds.Neq
code_kind (constraint lt) = kinds.Lt
code_kind (constraint gt) = kinds.Gt
code_kind (constraint le) = kinds.Le
code_kind (constraint ge) = kinds.Ge
code_kind (constraint oneof) = kinds.Oneof
code_kind (constraint cross) = kinds.Cross
code_kind (constraint enable_mask) = kinds.EnableMask
code_kind (constraint bitmask) = kinds.Bitmask
code_kind (constraint enable_set) = kinds.EnableSet
code_kind (projector sum) = kinds.Sum
code_kind (projector identity) = kinds.Identity
code_kind (projector parity) = kinds.Parity
code_kind (projector decompose) = kinds.Decompose

pub named : (k : code.Kind) (x : Kind) → as_kind k ≡ x → (x ≡ unknown → ⊥) → k ≡ code_kind x
named (kinds.Unknown n) x e h = absurd (h (sym e))
named kinds.Field x e h = ap code_kind e
named kinds.Value x e h = ap code_kind e
named kinds.Item x e h = ap code_kind e
named kinds.Pair x e h = ap code_kind e
named kinds.Key x e h = ap code_kind e
named kinds.Disable x e h = ap code_kind e
named kinds.Assign x e h = ap code_kind e
named kinds.Axis x e h = ap code_kind e
named kinds.Range x e h = ap code_kind e
named kinds.Even x e h = ap code_kind e
named kinds.Eq x e h = ap code_kind e
named kinds.Neq x e h = ap code_kind e
named kinds.Lt x e h = ap code_kind e
named kinds.Gt x e h = ap code_kind e
named kinds.Le x e h = ap code_kind e
named kinds.Ge x e h = ap code_kind e
named kinds.Oneof x e h = ap code_kind e
named kinds.Cross x e h = ap code_kind e
named kinds.EnableMask x e h = ap code_kind e
named kinds.Bitmask x e h = ap code_kind e
named kinds.EnableSet x e h = ap code_kind e
named kinds.Sum x e h = ap code_kind e
named kinds.Identity x e h = ap code_kind e
named kinds.Parity x e h = ap code_kind e
named kinds.Decompose x e h = ap code_kind e
