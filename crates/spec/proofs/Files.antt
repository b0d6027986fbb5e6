-- A file is its 32-byte parts laid end to end.
use mathlib.Core.List.{List, ◌∷◌}
use mathlib.Core.Path.{◌∙◌, ◌≡◌, ap, ap₂, refl}
use Prim.Native.Nat.{◌%◌, ◌*◌, ◌/◌, suc, zero, ℕ}
use native.Mathlib.Omega.{arith}
use lib.ListN.{drop, length, length-append, length-drop}
use lib.Seq.{drop_at, length-take-le, take_at}
use Rattle.lists.specs.Lists.{concat_map}
use Rattle.lists.proofs.All.{All, []ᴬ, ◌∷ᴬ◌}
use Rattle.spec.specs.Record.{chunks, parts_of}

abbrev pub Full : List (List ℕ) → Type 0
Full parts = All (λ bytes. length bytes ≡ 32) parts

abbrev pub laid : List (List ℕ) → List ℕ
laid parts = concat_map (λ bytes. bytes) parts

chunks_full : (n : ℕ) (bytes : List ℕ) → length bytes ≡ n * 32 → Full (chunks n bytes)
chunks_full zero bytes e = []ᴬ
chunks_full (suc n) bytes e = length-take-le 32 bytes (omega arith) ∷ᴬ chunks_full n (drop 32 bytes) (length-drop 32 bytes ∙ omega arith)

pub parts_full : (file : List ℕ) → length file % 32 ≡ 0 → Full (parts_of file)
unfolding parts_of
parts_full file e = chunks_full (length file / 32) file (omega arith)

pub length_laid : {parts : List (List ℕ)} → Full parts → length (laid parts) ≡ length parts * 32
length_laid []ᴬ = refl
length_laid (◌∷ᴬ◌ {x = bytes} {xs = parts} e t) = length-append bytes (laid parts) ∙ omega (arith, length_laid t)

chunks_laid : {parts : List (List ℕ)} → Full parts → chunks (length parts) (laid parts) ≡ parts
chunks_laid []ᴬ = refl
chunks_laid (◌∷ᴬ◌ {x = bytes} {xs = parts} e t) = ap₂ ◌∷◌ (take_at bytes (laid parts) 32 e) (ap (chunks (length parts)) (drop_at bytes (laid parts) 32 e) ∙ chunks_laid t)

pub parts_laid : {parts : List (List ℕ)} → Full parts → parts_of (laid parts) ≡ parts
unfolding parts_of
parts_laid {parts} h =
    let e : length (laid parts) / 32 ≡ length parts = omega (arith, length_laid h) in
    ap (λ (n : ℕ). chunks n (laid parts)) e ∙ chunks_laid h
