-- The head of a piece is read.
use Rattle.std.proofs.Common.{◌≡◌, ℕ, ◌+◌, ◌%◌, ◌^◌, ◌<◌, ◌≤◌, ◌⊎◌, inl, inr, List, ◌++◌, length, drop, sym, ap, ◌∙◌, subst, arith, append_assoc}
use Rattle.std.proofs.lemmas.List.{drop-drop}
use Rattle.byteorder.specs.Endian.{big_bytes}
use Rattle.webm_files.specs.Elements.{HasHead, IsSized, width, marked, unmarked, after_number, id_of, head_size, content_size}
use Rattle.webm_writing.specs.Pieces.{Piece, IsMarked, Fits, piece_text}
use Rattle.webm_writing.proofs.Numbers.{IsRead, read_1, read_2, read_3, read_4, read_8}

pub name_read : (size x : ℕ) (tail : List ℕ) → (size ≡ 1) ⊎ ((size ≡ 2) ⊎ ((size ≡ 3) ⊎ (size ≡ 4))) → IsMarked size x → IsRead size x tail (big_bytes size x ++ tail)
name_read size x tail (inl e) m = subst (λ n. IsRead n x tail (big_bytes n x ++ tail)) (sym e) (read_1 x tail (subst (λ n. IsMarked n x) e m))
name_read size x tail (inr (inl e)) m = subst (λ n. IsRead n x tail (big_bytes n x ++ tail)) (sym e) (read_2 x tail (subst (λ n. IsMarked n x) e m))
name_read size x tail (inr (inr (inl e))) m = subst (λ n. IsRead n x tail (big_bytes n x ++ tail)) (sym e) (read_3 x tail (subst (λ n. IsMarked n x) e m))
name_read size x tail (inr (inr (inr e))) m = subst (λ n. IsRead n x tail (big_bytes n x ++ tail)) (sym e) (read_4 x tail (subst (λ n. IsMarked n x) e m))

-- a length, with and without its mark
pub record IsLength (size number : ℕ) (tail text : List ℕ) : Type 0 where
  pub read : IsRead size (128 ^ size + number) tail text
  pub less : (128 ^ size + number) % 128 ^ size ≡ number
  pub most : size ≤ 8

pub length_read : (size n : ℕ) (tail : List ℕ) → (size ≡ 4) ⊎ (size ≡ 8) → n + 1 < 128 ^ size → IsLength size n tail (big_bytes size (128 ^ size + n) ++ tail)
length_read size n tail (inl e) few = subst (λ s. IsLength s n tail (big_bytes s (128 ^ s + n) ++ tail)) (sym e) (
    let less : n + 1 < 128 ^ 4 = subst (λ s. n + 1 < 128 ^ s) e few in
    record { read = read_4 (128 ^ 4 + n) tail (record { low = omega arith; high = omega (arith, less) }); less = omega (arith, less); most = omega arith }
    )
length_read size n tail (inr e) few = subst (λ s. IsLength s n tail (big_bytes s (128 ^ s + n) ++ tail)) (sym e) (
    let less : n + 1 < 128 ^ 8 = subst (λ s. n + 1 < 128 ^ s) e few in
    record { read = read_8 (128 ^ 8 + n) tail (record { low = omega arith; high = omega (arith, less) }); less = omega (arith, less); most = omega arith }
    )

pub record IsHead (text : List ℕ) (id n m : ℕ) (tail : List ℕ) : Type 0 where
  pub head : HasHead text
  pub name : id_of text ≡ id
  pub start : head_size text ≡ n
  pub size : content_size text ≡ m
  pub sized : IsSized text
  pub long : length text ≡ n + length tail
  pub rest : drop n text ≡ tail

few_widths : (size : ℕ) → (size ≡ 1) ⊎ ((size ≡ 2) ⊎ ((size ≡ 3) ⊎ (size ≡ 4))) → size ≤ 4
few_widths size (inl e) = omega (arith, e)
few_widths size (inr (inl e)) = omega (arith, e)
few_widths size (inr (inr (inl e))) = omega (arith, e)
few_widths size (inr (inr (inr e))) = omega (arith, e)

pub head_read : (piece : Piece) (rest : List ℕ) → Fits piece → IsHead (piece_text piece ++ rest) piece.id (piece.width + piece.marks) piece.size (piece.content ++ rest)
head_read piece rest fits =
    let tail : List ℕ = piece.content ++ rest in
    let second : List ℕ = big_bytes piece.marks (128 ^ piece.marks + piece.size) ++ tail in
    let text : List ℕ = big_bytes piece.width piece.id ++ second in
    let name = name_read piece.width piece.id second fits.width fits.name in
    let size = length_read piece.marks piece.size tail fits.marks fits.size in
    let after : after_number text ≡ second = ap (λ k. drop k text) name.width ∙ name.rest in
    let width' : width (after_number text) ≡ piece.marks = ap width after ∙ size.read.width in
    let long : length (after_number text) ≡ piece.marks + length tail = ap length after ∙ size.read.long in
    let few = few_widths piece.width fits.width in
    let content : content_size text ≡ piece.size = ap unmarked after ∙ ap (λ k. marked second % 128 ^ k) size.read.width ∙ ap (λ n. n % 128 ^ piece.marks) size.read.value ∙ size.less in
    let is : IsHead text piece.id (piece.width + piece.marks) piece.size tail = record {
      head = ((omega (arith, name.width, few), omega (arith, name.width, name.long)), (omega (arith, width', size.most), omega (arith, width', long)));
      name = name.value;
      start = omega (arith, name.width, width');
      size = content;
      sized = rw (content, width') fits.size;
      long = omega (arith, name.long, size.read.long);
      rest = sym (drop-drop piece.marks piece.width text) ∙ ap (drop piece.marks) name.rest ∙ size.read.rest;
    } in
    let first : List ℕ = big_bytes piece.marks (128 ^ piece.marks + piece.size) in
    let joined : text ≡ piece_text piece ++ rest
    = ap (λ t. big_bytes piece.width piece.id ++ t) (sym (append_assoc first piece.content rest)) ∙ sym (append_assoc (big_bytes piece.width piece.id) (first ++ piece.content) rest) in
    subst (λ t. IsHead t piece.id (piece.width + piece.marks) piece.size tail) joined is
