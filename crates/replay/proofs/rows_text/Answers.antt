-- The lines that are put stand at the start of the text.
use mathlib.Core.Path.{sym}
use Prim.Native.Nat.{◌≤◌}
use native.Mathlib.Omega.{arith}
use borrow.Author.Rules.{rules}
use lib.ListN.{length}
use lib.Seq.{length-take-le}
use Rattle.program.proofs.Printing.{fields-few}
use Rattle.replay.proofs.rows_text.Goals as goal

pub overflow_add-width : goal.overflow_add-width
overflow_add-width c = omega (arith, c.fields_of-width.ensures, fields-few c.args.file.now)

pub clear_places-requires : goal.clear_places-requires
clear_places-requires c = (omega arith, omega (arith, c.fields_of-width.ensures, fields-few c.args.file.now))

pub returns-in-Ok : goal.returns-in-Ok
returns-in-Ok c =
    let put = c.put_verdicts in
    let few : put.result ≤ length put.new.out = search rules in
    (few, sym (length-take-le put.result put.new.out few))
