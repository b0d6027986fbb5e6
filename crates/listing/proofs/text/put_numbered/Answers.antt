-- By the room.
use mathlib.Core.Path.{◌∙◌, sym}
use Rattle.listing.proofs.text.put_numbered.Goals as goal

pub returns : goal.returns
returns c =
    let put = c.put_refused in
    rw (sym c.has_room.ensures ∙ c.if-not-has_room.false) (record { out_after = put.ensures.out_after; value = put.ensures.value; upper_bound = put.ensures.upper_bound })
