-- What reads put at the start of a buffer, one after the other.
use Rattle.std.proofs.Common.{◌≡◌, ℕ, ◌+◌, ◌≤◌, List, ◌++◌, Option, None, Some, length, take, sym, ap, ◌∙◌, length-take-le}
use Rattle.std.specs.Io.KnownBytes.{Consumes}
use borrow.Rule.Slice.PartMut.{put_mid, post_of}
use lib.Seq.{take-append-add, take-append-le}
use mathlib.Core.List.{append_assoc}

pub Consumes_more : (a b c : Option (List ℕ)) (bs cs : List ℕ) → Consumes a b bs → Consumes b c cs → Consumes a c (bs ++ cs)
Consumes_more None b c bs cs p q = tt
Consumes_more (Some x) None c bs cs p q = absurd p
Consumes_more (Some x) (Some y) None bs cs p q = absurd q
Consumes_more (Some x) (Some y) (Some z) bs cs p q = p ∙ ap (λ l. bs ++ l) q ∙ sym (append_assoc bs cs z)

-- a read of n bytes into the part from `at` on
pub take_read : (at k n : ℕ) (file part : List ℕ) → at ≤ length file → n ≤ length part → take (at + n) (put_mid at k file part) ≡ take at file ++ take n part
take_read at k n file part within fits =
    let front = take at file in
    let after = part ++ post_of at k file in
    let long : at ≡ length front = sym (length-take-le at file within) in
    ap (λ m. take (m + n) (front ++ after)) long ∙ take-append-add front after n ∙ ap (λ l. front ++ l) (take-append-le n part (post_of at k file) fits)
