-- What std prints for the number is the text.
use borrow.Author.Rules.{rules}
use mir.Syntax.{w64}
use mir.Val.{SFits}
use mir.ValLaws.{to_z-of_z}
use Rattle.listing.proofs.Decimal.{std_signed}
use Rattle.listing.proofs.text.put_projection.Goals as goal

pub returns-in-Some : goal.returns-in-Some
returns-in-Some c =
    let number = c.in-Some.number in
    let fits : SFits w64 number = search rules in
    rw c.in-Some.is (rw (to_z-of_z w64 number fits, std_signed number fits) at c.put_spaced.ensures)
