-- A joined file has room in 65,536 bytes.
use Rattle.std.proofs.Common.{◌∙◌, ◌≤◌, ap, arith, length, length-take-le, sym}
use Rattle.join.proofs.Called.{answered_short}
use Rattle.join.specs.Code.{as_joined}
use Rattle.join_files.proofs.print_joined.Goals as goal

pub slice_bounds-out-end : goal.slice_bounds-out-end
slice_bounds-out-end g c = omega (arith, answered_short _ _ _ _ (sym (ap as_joined (sym c.in-Ok.is) ∙ c.join.ensures.answer)))

pub slice_bounds-write_all-end : goal.slice_bounds-write_all-end
slice_bounds-write_all-end g c =
    let inside : c.in-Ok.len ≤ length c.join.new.out = omega (arith, answered_short _ _ _ _ (sym (ap as_joined (sym c.in-Ok.is) ∙ c.join.ensures.answer))) in
    sym (length-take-le c.in-Ok.len c.join.new.out inside)
