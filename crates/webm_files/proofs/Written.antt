-- A cluster that is written is read as its blocks.
use Rattle.std.proofs.Common.{◌≡◌, ℕ, ◌+◌, ◌-◌, ◌%◌, ◌^◌, ◌<◌, ◌≤◌, true, false, cond, inl, inr, List, [], ◌∷◌, ◌++◌, length, drop, take, Some, option_to_list, pos, ◌+ℤ◌, refl, sym, ap, ◌∙◌, subst, arith, append_assoc, append-nil, length-append, length-drop, None}
use Rattle.std.specs.Int.{w16, w64, saturate_unsigned, cast_signed}
use Rattle.std.specs.List.{flat_map}
use Rattle.std.proofs.lemmas.Int.{to_z_pos}
use Rattle.std.proofs.lemmas.List.{drop_at, take_at, drop-drop, take_rest}
use Rattle.byteorder.specs.Endian.{big_number, big_bytes}
use Rattle.byteorder.specs.Numbers.{big_number-reads_back}
use Rattle.webm_files.specs.declared.elements.Element.{Element}
use Rattle.webm_files.specs.declared.blocks.Block.{Block}
use Rattle.webm_files.specs.Elements.{HasElement, HasNumber, after_number, is_block, is_known, is_opened, width, unmarked, id_of, element_size, head_size, content_size}
use Rattle.webm_files.specs.Walks.{IsNext, Follows, IsEnd, IsFollowed, Walked, element_of}
use Rattle.webm_files.specs.Blocks.{Reading, after, after_all, nothing, base_after, block_of, block_in, content, whole_number, stamp_of, AreBlocks}
use Rattle.webm_files.specs.Texts.{size_text, element_text, Frame, frame_content, frame_text, time_text, cluster_text, FrameFits, FramesFit, placed, all_placed}
use Rattle.webm_files.proofs.WrittenHeads.{IsHead, head_read, zeros_are}
use Rattle.webm_files.proofs.Steps.{base_after-other, base_after-timestamp, block_of-block, block_of-other, whole}

-- the element at a position is the next one
next_here : (file : List ℕ) (at : ℕ) → HasElement (drop at file) → (is_block (id_of (drop at file)) ≡ true → IsFollowed file (element_of file at).end) → IsNext file at (element_of file at)
next_here file at has followed = record {
  later = omega arith;
  begins = record { element = has; here = λ _ is. followed is; later = λ other _. absurd (other refl) };
  first = λ k low high. absurd (omega (arith, low, high));
  is = refl;
}

-- an element that is written, where its name has one byte and its content is not read as elements
record IsWhole (file : List ℕ) (at id : ℕ) (text : List ℕ) : Type 0 where
  pub has : HasElement (drop at file)
  pub name : (element_of file at).id ≡ id
  pub start : (element_of file at).start ≡ at + 5
  pub end : (element_of file at).end ≡ at + (5 + length text)
  pub content : content file (element_of file at) ≡ text

element_read : (file front text rest : List ℕ) (id : ℕ) → 128 ≤ id → id < 256 → is_known id ≡ true → is_opened id ≡ false → length text + 1 < 268435456
    → file ≡ front ++ (element_text id text ++ rest) → IsWhole file (length front) id text
element_read file front text rest id low high known closed few is =
    let at : ℕ = length front in
    let here : drop at file ≡ id ∷ (size_text (length text) ++ (text ++ rest)) = ap (drop at) is ∙ drop_at front (element_text id text ++ rest) at refl in
    let head : IsHead (drop at file) id (length text) (text ++ rest) = subst (λ t. IsHead t id (length text) (text ++ rest)) (sym here) (head_read id (length text) (text ++ rest) low high few) in
    let shut : is_opened (id_of (drop at file)) ≡ false = ap is_opened head.name ∙ closed in
    let size : element_size (drop at file) ≡ 5 + length text = ap (λ b. cond b (head_size (drop at file)) (head_size (drop at file) + content_size (drop at file))) shut ∙ omega (arith, head.start, head.size) in
    let has : HasElement (drop at file) = record {
      head = head.head;
      known = ap is_known head.name ∙ known;
      sized = λ _. head.sized;
      whole = omega (arith, size, head.long, length-append text rest);
    } in
    let start : at + head_size (drop at file) ≡ at + 5 = ap (λ n. at + n) head.start in
    let end : at + element_size (drop at file) ≡ at + (5 + length text) = ap (λ n. at + n) size in
    let following : drop (at + 5) file ≡ text ++ rest = sym (drop-drop 5 at file) ∙ head.rest in
    let long : (at + (5 + length text)) - (at + 5) ≡ length text = omega arith in
    record {
      has = has;
      name = head.name;
      start = start;
      end = end;
      content = ap (λ s. take ((element_of file at).end - s) (drop s file)) start ∙ ap (λ e. take (e - (at + 5)) (drop (at + 5) file)) end ∙ ap (λ n. take n (drop (at + 5) file)) long ∙ ap (take (length text)) following ∙ take_at text rest (length text) refl;
    }

simple_known : is_known 163 ≡ true
unfolding is_known
simple_known = refl

simple_closed : is_opened 163 ≡ false
unfolding is_opened
simple_closed = refl

simple_block : is_block 163 ≡ true
unfolding is_block
simple_block = refl

time_known : is_known 231 ≡ true
unfolding is_known
time_known = refl

time_closed : is_opened 231 ≡ false
unfolding is_opened
time_closed = refl

time_no_block : is_block 231 ≡ false
unfolding is_block
time_no_block = refl

-- a time that is written is read
stamp_read : (base time : ℕ) (rest : List ℕ) → time < 32768 → base + time < 2 ^ 64 → base + time ≡ stamp_of base (big_bytes 2 time ++ rest)
stamp_read base time rest small fits =
    let number : big_number 2 (big_bytes 2 time ++ rest) ≡ time = big_number-reads_back 2 time rest (omega arith) in
    let signed : cast_signed w16 (big_number 2 (big_bytes 2 time ++ rest)) ≡ pos time = ap (cast_signed w16) number ∙ to_z_pos w16 time small in
    let sum : saturate_unsigned w64 (pos base +ℤ pos time) ≡ base + time = omega arith in
    sym (ap (λ z. saturate_unsigned w64 (pos base +ℤ z)) signed ∙ sum)

-- the content of a block that is written
block_read : (at base : ℕ) (frame : Frame) → FrameFits base frame → Some (placed at base frame) ≡ block_in base at (at + 5) (frame_content frame)
block_read at base frame fits =
    let text : List ℕ = frame_content frame in
    let first : ℕ = 128 + frame.track in
    let following : List ℕ = big_bytes 2 frame.time ++ frame.flags ∷ frame.bytes in
    let one : width text ≡ 1 = ap (λ z. z + 1) (zeros_are first 0 8 refl (omega (arith, fits.track)) (omega arith)) in
    let long : length text ≡ 4 + length frame.bytes = omega arith in
    let has : HasNumber 8 text = (omega (arith, one), omega (arith, one, long)) in
    let value : big_number 1 text ≡ 128 + frame.track = omega arith in
    let track : frame.track ≡ unmarked text = sym (ap (λ k. big_number k text % 128 ^ k) one ∙ ap (λ n. n % 128) value ∙ omega (arith, fits.track)) in
    let after : take (length text - 1) (drop 1 text) ≡ big_bytes 2 frame.time ++ frame.flags ∷ frame.bytes = take_rest text 1 in
    let stamp : base + frame.time ≡ stamp_of base (take (length text - 1) (drop 1 text)) = stamp_read base frame.time (frame.flags ∷ frame.bytes) fits.time fits.stamp ∙ ap (stamp_of base) (sym after) in
    let found = whole base at (at + 5) frame.track (base + frame.time) frame.flags 1 text has (omega (arith, one, long)) (sym one) track stamp refl in
    let start : (at + 5) + (1 + 3) ≡ at + 9 = omega arith in
    let end : (at + 5) + length text ≡ at + (9 + length frame.bytes) = omega (arith, long) in
    ap (λ s. Some (record { track = frame.track; stamp = base + frame.time; flags = frame.flags; place = at; start = s; end = at + (9 + length frame.bytes) })) (sym start)
    ∙ ap (λ e. Some (record { track = frame.track; stamp = base + frame.time; flags = frame.flags; place = at; start = (at + 5) + (1 + 3); end = e })) (sym end)
    ∙ found

-- one block more
record Steps (file : List ℕ) (at : ℕ) (known : Reading) (to : ℕ) (more : Reading) : Type 0 where
  pub next : IsNext file at (element_of file at)
  pub end : (element_of file at).end ≡ to
  pub after : after file known (element_of file at) ≡ more

frame_step : (file front rest : List ℕ) (base : ℕ) (blocks : List Block) (frame : Frame) → FrameFits base frame → file ≡ front ++ (frame_text frame ++ rest) → Follows file 1 (length front + length (frame_text frame))
    → Steps file (length front) (record { base = base; blocks = blocks }) (length front + length (frame_text frame)) (record { base = base; blocks = blocks ++ placed (length front) base frame ∷ [] })
frame_step file front rest base blocks frame fits is followed =
    let at : ℕ = length front in
    let text : List ℕ = frame_content frame in
    let element : Element = element_of file at in
    let long : length text ≡ 4 + length frame.bytes = omega arith in
    let read : IsWhole file at 163 text = element_read file front text rest 163 (omega arith) (omega arith) simple_known simple_closed (omega (arith, long, fits.size)) is in
    let same : base_after file base element ≡ base = sym (base_after-other file base element (λ e. absurd (omega (arith, e, read.name)))) in
    let found : block_of file base element ≡ Some (placed at base frame) =
    sym (block_of-block file base element (ap is_block read.name ∙ simple_block))
    ∙ ap (λ s. block_in base at s (content file element)) read.start
    ∙ ap (block_in base at (at + 5)) read.content
    ∙ sym (block_read at base frame fits) in
    let end : element.end ≡ length front + length (frame_text frame) = read.end ∙ omega arith in
    record {
      next = next_here file at read.has (λ _. inr (subst (Follows file 1) (sym end) followed));
      end = end;
      after = ap (λ b. record { base = b; blocks = blocks ++ option_to_list (block_of file base element) }) same ∙ ap (λ b. record { base = base; blocks = blocks ++ option_to_list b }) found;
    }

-- reading goes from one position to another
record Goes (file : List ℕ) (at : ℕ) (known : Reading) (to : ℕ) (more : Reading) : Type 0 where
  pub elements : List Element
  pub walked : Walked file at elements to
  pub after : after_all file known elements ≡ more

goes_on : (file : List ℕ) (at between to : ℕ) (known next last : Reading) → Steps file at known between next → Goes file between next to last → Goes file at known to last
goes_on file at between to known next last step others = record {
  elements = element_of file at ∷ others.elements;
  walked = (step.next, subst (λ n. Walked file n others.elements to) (sym step.end) others.walked);
  after = ap (λ r. after_all file r others.elements) step.after ∙ others.after;
}

-- after a frame there is another one, or the end
frames_follow : (file front : List ℕ) (base : ℕ) (frames : List Frame) → FramesFit base frames → file ≡ front ++ flat_map frame_text frames → Follows file 1 (length front)
frames_follow file front base [] fit is = inl (sym (ap length (is ∙ append-nil front)))
frames_follow file front base (frame ∷ frames) fit is =
    let text : List ℕ = frame_content frame in
    let long : length text ≡ 4 + length frame.bytes = omega arith in
    let read : IsWhole file (length front) 163 text = element_read file front text (flat_map frame_text frames) 163 (omega arith) (omega arith) simple_known simple_closed (omega (arith, long, fit.0.size)) is in
    inr (read.has, tt)

frames_go : (file front : List ℕ) (base : ℕ) (blocks : List Block) (frames : List Frame) → FramesFit base frames → file ≡ front ++ flat_map frame_text frames
    → Goes file (length front) (record { base = base; blocks = blocks }) (length file) (record { base = base; blocks = blocks ++ all_placed (length front) base frames })
frames_go file front base blocks [] fit is = record {
  elements = [];
  walked = sym (ap length (is ∙ append-nil front));
  after = ap (λ b. record { base = base; blocks = b }) (sym (append-nil blocks));
}
frames_go file front base blocks (frame ∷ frames) fit is =
    let rest : List ℕ = flat_map frame_text frames in
    let longer : List ℕ = front ++ frame_text frame in
    let long : length longer ≡ length front + length (frame_text frame) = length-append front (frame_text frame) in
    let whole' : file ≡ longer ++ rest = is ∙ sym (append_assoc front (frame_text frame) rest) in
    let step = frame_step file front rest base blocks frame fit.0 is (subst (Follows file 1) long (frames_follow file longer base frames fit.1 whole')) in
    let more : List Block = blocks ++ placed (length front) base frame ∷ [] in
    let others = frames_go file longer base more frames fit.1 whole' in
    let moved = subst (λ n. Goes file n (record { base = base; blocks = more }) (length file) (record { base = base; blocks = more ++ all_placed n base frames })) long others in
    let joined : more ++ all_placed (length front + length (frame_text frame)) base frames ≡ blocks ++ (placed (length front) base frame ∷ all_placed (length front + length (frame_text frame)) base frames)
    = append_assoc blocks (placed (length front) base frame ∷ []) (all_placed (length front + length (frame_text frame)) base frames) in
    goes_on file (length front) (length front + length (frame_text frame)) (length file) _ _ _ step
    (subst (λ b. Goes file (length front + length (frame_text frame)) (record { base = base; blocks = more }) (length file) (record { base = base; blocks = b })) joined moved)

end_here : (file : List ℕ) → IsEnd file (length file)
end_here file = λ k past can. let whole : width (drop k file) ≤ length (drop k file) = can.element.head.0.1 in absurd (omega (arith, past, whole, length-drop k file))

cluster_known : is_known 524531317 ≡ true
unfolding is_known
cluster_known = refl

cluster_opened : is_opened 524531317 ≡ true
unfolding is_opened
cluster_opened = refl

cluster_no_block : is_block 524531317 ≡ false
unfolding is_block
cluster_no_block = refl

-- the head of a cluster
abbrev cluster_front : ℕ → List ℕ
cluster_front n = 31 ∷ 67 ∷ 182 ∷ 117 ∷ 1 ∷ big_bytes 7 n

cluster_step : (file tail : List ℕ) (n : ℕ) → file ≡ cluster_front n ++ tail → Steps file 0 nothing 12 nothing
cluster_step file tail n is =
    let text : List ℕ = cluster_front n ++ tail in
    let four : width text ≡ 4 = ap (λ z. z + 1) (zeros_are 31 3 5 refl (omega arith) (omega arith)) in
    let following : after_number text ≡ 1 ∷ (big_bytes 7 n ++ tail) = ap (λ k. drop k text) four in
    let eight : width (after_number text) ≡ 8 = ap width following ∙ ap (λ z. z + 1) (zeros_are 1 7 1 refl (omega arith) (omega arith)) in
    let long : length text ≡ 12 + length tail = omega arith in
    let rest : length (after_number text) ≡ 8 + length tail = ap length following ∙ omega arith in
    let name : id_of text ≡ 524531317 = ap (λ k. big_number k text) four in
    let opened : is_opened (id_of text) ≡ true = ap is_opened name ∙ cluster_opened in
    let size : element_size text ≡ 12 = ap (λ b. cond b (head_size text) (head_size text + content_size text)) opened ∙ omega (arith, four, eight) in
    let has : HasElement text = record {
      head = ((omega (arith, four), omega (arith, four, long)), (omega (arith, eight), omega (arith, eight, rest)));
      known = ap is_known name ∙ cluster_known;
      sized = λ e. let wrong : true ≡ false = sym opened ∙ e in (cc);
      whole = omega (arith, size, long);
    } in
    let there : HasElement file = subst HasElement (sym is) has in
    let element : Element = element_of file 0 in
    let name' : element.id ≡ 524531317 = ap id_of is ∙ name in
    let end : element.end ≡ 12 = ap (λ t. 0 + element_size t) is ∙ omega (arith, size) in
    let same : base_after file 0 element ≡ 0 = sym (base_after-other file 0 element (λ e. absurd (omega (arith, e, name')))) in
    let none : block_of file 0 element ≡ None = sym (block_of-other file 0 element (ap is_block name' ∙ cluster_no_block)) in
    record {
      next = next_here file 0 there (λ e. let wrong : true ≡ false = sym e ∙ (ap is_block name' ∙ cluster_no_block) in (cc));
      end = end;
      after = ap (λ b. record { base = b; blocks = [] ++ option_to_list (block_of file 0 element) }) same ∙ ap (λ b. record { base = 0; blocks = [] ++ option_to_list b }) none;
    }

time_step : (file front rest : List ℕ) (base : ℕ) → base < 2 ^ 64 → file ≡ front ++ (time_text base ++ rest) → Steps file (length front) nothing (length front + 13) (record { base = base; blocks = [] })
time_step file front rest base fits is =
    let at : ℕ = length front in
    let text : List ℕ = big_bytes 8 base in
    let element : Element = element_of file at in
    let read : IsWhole file at 231 text = element_read file front text rest 231 (omega arith) (omega arith) time_known time_closed (omega arith) is in
    let value : whole_number text ≡ base = ap (big_number 8) (sym (append-nil text)) ∙ big_number-reads_back 8 base [] fits in
    let same : base_after file 0 element ≡ base = sym (base_after-timestamp file 0 element read.name) ∙ ap whole_number read.content ∙ value in
    let none : block_of file 0 element ≡ None = sym (block_of-other file 0 element (ap is_block read.name ∙ time_no_block)) in
    record {
      next = next_here file at read.has (λ e. let wrong : true ≡ false = sym e ∙ (ap is_block read.name ∙ time_no_block) in (cc));
      end = read.end ∙ omega arith;
      after = ap (λ b. record { base = b; blocks = [] ++ option_to_list (block_of file 0 element) }) same ∙ ap (λ b. record { base = base; blocks = [] ++ option_to_list b }) none;
    }

pub cluster_is_read : (base : ℕ) (frames : List Frame) → base < 2 ^ 64 → FramesFit base frames → AreBlocks (cluster_text base frames) (all_placed 25 base frames)
cluster_is_read base frames fits fit =
    let file : List ℕ = cluster_text base frames in
    let rest : List ℕ = flat_map frame_text frames in
    let n : ℕ = length (time_text base ++ rest) in
    let first = cluster_step file (time_text base ++ rest) n refl in
    let second = time_step file (cluster_front n) rest base fits refl in
    let others = frames_go file (cluster_front n ++ time_text base) base [] frames fit refl in
    let timed : Goes file 12 nothing (length file) (record { base = base; blocks = all_placed 25 base frames }) = goes_on file 12 25 (length file) _ _ _ second others in
    let all : Goes file 0 nothing (length file) (record { base = base; blocks = all_placed 25 base frames }) = goes_on file 0 12 (length file) _ _ _ first timed in
    record {
      walk = record { elements = all.elements; end = length file };
      is = record { walked = all.walked; over = end_here file };
      found = sym (ap (λ r. r.blocks) all.after);
    }
