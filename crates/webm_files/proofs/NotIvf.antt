-- An IVF file does not begin with an EBML header.
use Rattle.std.proofs.Common.{false, ◌≡◌, ℕ, ◌+◌, List, [], ◌∷◌, take, get_or, refl, ap, arith}
use Rattle.byteorder.specs.Endian.{big_number}
use Rattle.stream_files.specs.Ivf.{IsIvf}
use Rattle.stream_files.specs.declared.streams.Stream.{Stream}
use Rattle.webm_files.specs.declared.ids.TheConstants.{EBML}
use Rattle.webm_files.specs.Elements.{id_of, width}
use Rattle.webm_files.specs.Files.{HasHeader, is_marked}
use Rattle.webm_files.proofs.WrittenHeads.{zeros_are}

-- a text whose first byte is D has a name of two bytes
narrow : (first second : ℕ) (rest : List ℕ) → first ≡ 68 → second ≡ 75 → id_of (first ∷ second ∷ rest) ≡ EBML → ⊥
narrow first second rest d k is =
    let two : width (first ∷ second ∷ rest) ≡ 2 = ap (λ z. z + 1) (zeros_are first 1 7 refl (omega (arith, d)) (omega (arith, d))) in
    let name : id_of (first ∷ second ∷ rest) ≡ big_number 2 (first ∷ second ∷ rest) = ap (λ n. big_number n (first ∷ second ∷ rest)) two in
    omega (arith, name, is, d, k)

begins : (bytes : List ℕ) → take 4 bytes ≡ 68 ∷ 75 ∷ 73 ∷ 70 ∷ [] → id_of bytes ≡ EBML → ⊥
begins [] same is = let wrong : ◌≡◌ {A = List ℕ} [] (68 ∷ 75 ∷ 73 ∷ 70 ∷ []) = same in absurd (cc)
begins (a ∷ []) same is = let wrong : a ∷ [] ≡ 68 ∷ 75 ∷ 73 ∷ 70 ∷ [] = same in absurd (cc)
begins (a ∷ b ∷ rest) same is = narrow a b rest (ap (λ t. get_or t 0 0) same) (ap (λ t. get_or t 1 0) same) is

pub not_webm : (bytes : List ℕ) (file : Stream) → IsIvf bytes file → HasHeader bytes → ⊥
not_webm bytes file ivf header = begins bytes ivf.header.1 header.1

-- nor with the name of one
unmarked : (bytes : List ℕ) → take 4 bytes ≡ 68 ∷ 75 ∷ 73 ∷ 70 ∷ [] → is_marked bytes ≡ false
unmarked [] same = refl
unmarked (a ∷ rest) same = let first : a ≡ 68 = ap (λ t. get_or t 0 0) same in rw first refl

pub not_marked : (bytes : List ℕ) (file : Stream) → IsIvf bytes file → is_marked bytes ≡ false
not_marked bytes file ivf = unmarked bytes ivf.header.1
