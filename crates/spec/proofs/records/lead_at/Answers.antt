-- `spec::records::lead_at` meets its contract.
use mathlib.Core.Path.{◌∙◌}
use Prim.Native.Nat.{◌*◌}
use native.Mathlib.Omega.{arith}
use Rattle.spec.proofs.Fields.{a_of, b_of, code_of, padding_of}
use Rattle.spec.proofs.Words.{lead_word}
use Rattle.spec.proofs.records.lead_at.Goals as goal

pub returns-clause-sum : goal.returns-clause-sum
returns-clause-sum c = rw (code_of, a_of, b_of, padding_of) (c.natural_at.ensures ∙ lead_word c.args.file.now (c.args.i * 32) (omega arith))

pub returns-clause-bytes : goal.returns-clause-bytes
returns-clause-bytes c =
    let byte = c.type_inv.file in
    record { code-low = rw code_of (byte _).fits; a-low = rw a_of (byte _).fits; b-low = rw b_of (byte _).fits }
