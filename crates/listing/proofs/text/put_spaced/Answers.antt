-- The space, and right after it the number.
use mathlib.Core.List.{List, [], ◌∷◌}
use mathlib.Core.Path.{◌∙◌, ap}
use Prim.Native.Nat.{ℕ}
use native.Mathlib.Omega.{arith}
use lib.ListN.{length}
use Rattle.listing.proofs.Buffer.{put_after}
use Rattle.listing.proofs.text.put_spaced.Goals as goal

pub put_word-requires : goal.put_word-requires
put_word-requires o c = omega (arith, c.as_bytes.ensures.len, c.format.ensures.fits, c.requires.0, c.put_byte-next.ensures.value, c.put_byte-next.auto.out)

pub returns : goal.returns
returns o c =
    let byte = c.put_byte-next in
    let word = c.put_word in
    let args = c.args in
    let text = c.as_bytes.ensures.value ∙ c.format.ensures.text in
    let put = rw text at word.ensures in
    let long = ap (λ (l : List ℕ). length l) text in
    record { out_after = put_after args.out.now byte.new.out word.new.out args.at byte.result (32 ∷ []) (o.I.Integer.text args.number) byte.ensures.out_after byte.ensures.value put.out_after; value = omega (arith, byte.ensures.value, put.value); upper_bound = omega (arith, byte.ensures.value, put.value, long, c.as_bytes.ensures.len, c.format.ensures.fits, c.requires.0) }
