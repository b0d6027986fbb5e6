-- Every field that a constraint or the projector names is below n, and n is the number of fields.
use Prim.Native.Nat.{◌<◌, ℕ}
use lib.ListN.{length}
use Rattle.lists.proofs.All.{All}
use Rattle.spec.specs.Spec.{Assign, Check, ConstraintSpec, Cross, Decompose, Enable, Eq, FieldAssignment, Identity, Neq, Parity, ProjectorSpec, Spec, Sum}

abbrev pub width : Spec → ℕ
width s = length s.fields

abbrev pub WritesBelow : ℕ → FieldAssignment → Type 0
WritesBelow n (Assign f v) = f < n

abbrev pub NamesBelow : ℕ → ConstraintSpec → Type 0
NamesBelow n (Check f t) = f < n
NamesBelow n (Eq a b) = (a < n) × (b < n)
NamesBelow n (Neq a b) = (a < n) × (b < n)
NamesBelow n (Cross parent child entries) = (parent < n) × (child < n)
NamesBelow n (Enable e f trigger writes) = (f < n) × All (WritesBelow n) writes

-- A specification that names only fields that it has.
abbrev pub Named : Spec → Type 0
Named s = All (NamesBelow (width s)) s.constraints

-- The field that a projector names is below n.
abbrev pub ProjectsBelow : ℕ → ProjectorSpec → Type 0
ProjectsBelow n Sum = Unit {0}
ProjectsBelow n (Identity f) = f < n
ProjectsBelow n (Parity f) = f < n
ProjectsBelow n (Decompose f base offset axes) = f < n
