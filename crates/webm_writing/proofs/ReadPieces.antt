-- Pieces are read one after the other.
use Rattle.std.proofs.Common.{◌≡◌, ℕ, ◌+◌, ◌-◌, ◌≤◌, ◌==◌, ◌⊎◌, if◌then◌else◌, true, false, cond, inl, inr, List, [], ◌∷◌, ◌++◌, length, drop, take, None, option_to_list, refl, sym, ap, ◌∙◌, subst, arith, append_assoc, append-nil, length-append, length-drop, eqb}
use Rattle.std.proofs.lemmas.List.{drop_at, take_at, drop-drop}
use Rattle.webm_files.specs.declared.ids.TheConstants.{TIMESTAMP}
use Rattle.webm_files.specs.declared.elements.Element.{Element}
use Rattle.webm_files.specs.Elements.{HasElement, is_block, is_known, is_opened, id_of, element_size, head_size, content_size, width}
use Rattle.webm_files.specs.Walks.{IsNext, Follows, IsEnd, IsFollowed, IsWalk, Walked, element_of}
use Rattle.webm_files.specs.Blocks.{Reading, after, after_all, nothing, base_after, block_of, block_in, content, whole_number, AreBlocks}
use Rattle.webm_writing.specs.Pieces.{Piece, piece_text, text_of, Fits, AllFit, element_at, elements_of, read_piece, read_pieces}
use Rattle.webm_writing.proofs.WrittenHeads.{IsHead, head_read}

-- the element at a position is the next one
next_here : (file : List ℕ) (at : ℕ) → HasElement (drop at file) → (is_block (id_of (drop at file)) ≡ true → IsFollowed file (element_of file at).end) → IsNext file at (element_of file at)
next_here file at has followed = record {
  later = omega arith;
  begins = record { element = has; here = λ _ is. followed is; later = λ other _. absurd (other refl) };
  first = λ k low high. absurd (omega (arith, low, high));
  is = refl;
}

-- how many bytes an element has
size_of : (text : List ℕ) (piece : Piece) (rest : List ℕ) → Fits piece → IsHead text piece.id (piece.width + piece.marks) piece.size (piece.content ++ rest)
    → ((is_opened piece.id ≡ true) × (piece.content ≡ [])) ⊎ ((is_opened piece.id ≡ false) × (piece.size ≡ length piece.content))
    → element_size text ≡ (piece.width + piece.marks) + length piece.content
size_of text piece rest fits head (inl (opened, empty)) =
    let none : length piece.content ≡ 0 = ap length empty in
    ap (λ b. cond b (head_size text) (head_size text + content_size text)) (ap is_opened head.name ∙ opened) ∙ omega (arith, head.start, none)
size_of text piece rest fits head (inr (closed, sized)) =
    ap (λ b. cond b (head_size text) (head_size text + content_size text)) (ap is_opened head.name ∙ closed) ∙ omega (arith, head.start, head.size, sized)

-- a piece at a position of a file
record IsAt (file : List ℕ) (at : ℕ) (piece : Piece) : Type 0 where
  pub has : HasElement (drop at file)
  pub is : element_of file at ≡ element_at at piece
  pub content : content file (element_at at piece) ≡ piece.content
  pub long : length (piece_text piece) ≡ (piece.width + piece.marks) + length piece.content

piece_at : (file front rest : List ℕ) (piece : Piece) → Fits piece → file ≡ front ++ (piece_text piece ++ rest) → IsAt file (length front) piece
piece_at file front rest piece fits is =
    let at : ℕ = length front in
    let size : ℕ = piece.width + piece.marks in
    let here : drop at file ≡ piece_text piece ++ rest = ap (drop at) is ∙ drop_at front (piece_text piece ++ rest) at refl in
    let read = head_read piece rest fits in
    let head : IsHead (drop at file) piece.id size piece.size (piece.content ++ rest) = subst (λ t. IsHead t piece.id size piece.size (piece.content ++ rest)) (sym here) read in
    let whole : element_size (drop at file) ≡ size + length piece.content = size_of (drop at file) piece rest fits head fits.content in
    let start : at + head_size (drop at file) ≡ at + size = ap (λ n. at + n) head.start in
    let end : at + element_size (drop at file) ≡ at + (size + length piece.content) = ap (λ n. at + n) whole in
    let following : drop (at + size) file ≡ piece.content ++ rest = sym (drop-drop size at file) ∙ head.rest in
    let few : (at + (size + length piece.content)) - (at + size) ≡ length piece.content = omega arith in
    record {
      has = record {
        head = head.head;
        known = ap is_known head.name ∙ fits.known;
        sized = λ _. head.sized;
        whole = omega (arith, whole, head.long, length-append piece.content rest);
      };
      is = ap (λ i. record { id = i; place = at; start = at + head_size (drop at file); end = at + element_size (drop at file) }) head.name
          ∙ ap (λ s. record { id = piece.id; place = at; start = s; end = at + element_size (drop at file) }) start
          ∙ ap (λ e. record { id = piece.id; place = at; start = at + size; end = e }) end;
      content = ap (λ n. take n (drop (at + size) file)) few ∙ ap (take (length piece.content)) following ∙ take_at piece.content rest (length piece.content) refl;
      long = omega (arith, read.long, length-append (piece_text piece) rest, length-append piece.content rest);
    }

-- after a piece there is another one, or the end
next_follows : (file front : List ℕ) (pieces : List Piece) → AllFit pieces → file ≡ front ++ text_of pieces → Follows file 1 (length front)
next_follows file front [] fit is = inl (sym (ap length (is ∙ append-nil front)))
next_follows file front (piece ∷ pieces) fit is = inr ((piece_at file front (text_of pieces) piece fit.0 is).has, tt)

walks : (file front : List ℕ) (pieces : List Piece) → AllFit pieces → file ≡ front ++ text_of pieces → Walked file (length front) (elements_of (length front) pieces) (length file)
walks file front [] fit is = sym (ap length (is ∙ append-nil front))
walks file front (piece ∷ pieces) fit is =
    let at : ℕ = length front in
    let longer : List ℕ = front ++ piece_text piece in
    let long : length longer ≡ at + length (piece_text piece) = length-append front (piece_text piece) in
    let whole : file ≡ longer ++ text_of pieces = is ∙ sym (append_assoc front (piece_text piece) (text_of pieces)) in
    let read = piece_at file front (text_of pieces) piece fit.0 is in
    let over : (element_at at piece).end ≡ at + length (piece_text piece) = omega (arith, read.long) in
    let end : (element_of file at).end ≡ length longer = ap (λ e. e.end) read.is ∙ over ∙ sym long in
    let next : IsNext file at (element_of file at) = next_here file at read.has (λ _. inr (subst (Follows file 1) (sym end) (next_follows file longer pieces fit.1 whole))) in
    let others = subst (λ n. Walked file n (elements_of n pieces) (length file)) long (walks file longer pieces fit.1 whole) in
    (subst (IsNext file at) read.is next, subst (λ n. Walked file n (elements_of (at + length (piece_text piece)) pieces) (length file)) (sym over) others)

end_here : (file : List ℕ) → IsEnd file (length file)
end_here file = λ k past can. let whole : width (drop k file) ≤ length (drop k file) = can.element.head.0.1 in absurd (omega (arith, past, whole, length-drop k file))

pub walk_is : (pieces : List Piece) → AllFit pieces → IsWalk (text_of pieces) (record { elements = elements_of 0 pieces; end = length (text_of pieces) })
walk_is pieces fit = record { walked = walks (text_of pieces) [] pieces fit refl; over = end_here (text_of pieces) }

-- what one piece adds
base_read : (file : List ℕ) (base : ℕ) (element : Element) → base_after file base element ≡ (if element.id == TIMESTAMP then whole_number (content file element) else base)
unfolding base_after
base_read file base element = refl

block_read : (file : List ℕ) (base : ℕ) (element : Element) → block_of file base element ≡ (if is_block element.id then block_in base element.place element.start (content file element) else None)
unfolding block_of
block_read file base element = refl

one : (file : List ℕ) (at : ℕ) (known : Reading) (piece : Piece) → content file (element_at at piece) ≡ piece.content → after file known (element_at at piece) ≡ read_piece at known piece
one file at known piece same =
    let element : Element = element_at at piece in
    let base = base_read file known.base element ∙ ap (λ text. cond (eqb piece.id TIMESTAMP) (whole_number text) known.base) same in
    let block = block_read file known.base element ∙ ap (λ text. cond (is_block piece.id) (block_in known.base at (at + (piece.width + piece.marks)) text) None) same in
    ap (λ b. record { base = b; blocks = known.blocks ++ option_to_list (block_of file known.base element) }) base
    ∙ ap (λ b. record { base = cond (eqb piece.id TIMESTAMP) (whole_number piece.content) known.base; blocks = known.blocks ++ option_to_list b }) block

reads : (file front : List ℕ) (pieces : List Piece) (known : Reading) → AllFit pieces → file ≡ front ++ text_of pieces
    → after_all file known (elements_of (length front) pieces) ≡ read_pieces (length front) known pieces
reads file front [] known fit is = refl
reads file front (piece ∷ pieces) known fit is =
    let at : ℕ = length front in
    let longer : List ℕ = front ++ piece_text piece in
    let long : length longer ≡ at + length (piece_text piece) = length-append front (piece_text piece) in
    let whole : file ≡ longer ++ text_of pieces = is ∙ sym (append_assoc front (piece_text piece) (text_of pieces)) in
    let read = piece_at file front (text_of pieces) piece fit.0 is in
    let next : Reading = read_piece at known piece in
    ap (λ r. after_all file r (elements_of (at + length (piece_text piece)) pieces)) (one file at known piece read.content)
    ∙ subst (λ n. after_all file next (elements_of n pieces) ≡ read_pieces n next pieces) long (reads file longer pieces next fit.1 whole)

pub blocks_are : (pieces : List Piece) → AllFit pieces → AreBlocks (text_of pieces) (read_pieces 0 nothing pieces).blocks
blocks_are pieces fit = record {
  walk = record { elements = elements_of 0 pieces; end = length (text_of pieces) };
  is = walk_is pieces fit;
  found = sym (ap (λ r. r.blocks) (reads (text_of pieces) [] pieces nothing fit refl));
}
