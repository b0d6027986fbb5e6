-- `compose::filters::narrow_from` meets its contract. The invariant: the values in front, narrowed by the constraints left, are the list narrowed by all from the first on.
use Rattle.std.proofs.Common.{◌≡◌, ◌≤◌, drop, length, take}
use mathlib.Core.List.{foldl}
use Rattle.compose.specs.Maps.{narrow_by}
use Rattle.compose.specs.Code.{constraints_in}
use Rattle.compose.proofs.filters.narrow_from.Given as goal

abbrev pub invariant-loop-k : goal.invariant-loop-k
invariant-loop-k l = (l.len ≤ length l.list) × (foldl (narrow_by l.f) (take l.len l.list) (constraints_in l.rules.file.now (drop l.k l.rules.heads.now)) ≡ foldl (narrow_by l.f) l.initial.list (constraints_in l.rules.file.now (drop l.first l.rules.heads.now)))
