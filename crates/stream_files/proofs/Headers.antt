-- The header of an IVF text, in full.
use Rattle.std.proofs.Common.{◌≡◌, ℕ, ◌+◌, ◌-◌, ◌^◌, ◌<◌, ◌≤◌, List, ◌++◌, length, take, drop, codes, refl, sym, ap, ◌∙◌, subst, arith, append_assoc, length-append, length-drop, take-append-drop}
use Rattle.std.proofs.lemmas.List.{take_at, drop_at, drop-drop, length-take-le}
use Rattle.byteorder.specs.Endian.{little_number, little_bytes}
use Rattle.byteorder.specs.Numbers.{little_from-lt, little_number-reads_back, length-bytes_low_first}
use Rattle.stream_files.specs.declared.streams.Head.{Head}
use Rattle.stream_files.specs.declared.streams.Stream.{Stream}
use Rattle.stream_files.specs.Ivf.{IsIvf, Records, body, head_of, header_length}
use Rattle.stream_files.specs.Texts.{IsBytes, IsIvfText, FieldsFit, fields_text, records_text}
use Rattle.stream_files.proofs.Texts.{bytes-drop, field_at, records_read, records_spelled}

-- the parts of a text in sequence
regrouped : (m v l f w h r s c u p t : List ℕ)
    → m ++ v ++ l ++ f ++ w ++ h ++ r ++ s ++ c ++ u ++ p ++ t
    ≡ m ++ (v ++ (l ++ (f ++ (w ++ (h ++ (r ++ (s ++ (c ++ (u ++ (p ++ t))))))))))
regrouped m v l f w h r s c u p t = simp append_assoc

-- the bytes after the part at an index
next : (k n : ℕ) (text part following : List ℕ) → drop k text ≡ part ++ following → length part ≡ n → drop (k + n) text ≡ following
next k n text part following here len = sym (drop-drop n k text) ∙ ap (drop n) here ∙ drop_at part following n len

-- the part at the front
front : (n : ℕ) (text part following : List ℕ) → text ≡ part ++ following → length part ≡ n → take n text ≡ part
front n text part following here len = ap (take n) here ∙ take_at part following n len

-- the number at an index
reported : (k n x : ℕ) (text following : List ℕ) → drop k text ≡ little_bytes n x ++ following → x < 256 ^ n → little_number n (drop k text) ≡ x
reported k n x text following here fits = ap (little_number n) here ∙ little_number-reads_back n x following fits

-- what a text of this form has at each index
record Places (text : List ℕ) (len : ℕ) (head : Head) (t : List ℕ) : Type 0 where
  magic : take 4 text ≡ codes "DKIF"
  four_cc : take 4 (drop 8 text) ≡ codes "VP80"
  told_len : little_number 2 (drop 6 text) ≡ len
  width : little_number 2 (drop 12 text) ≡ head.width
  height : little_number 2 (drop 14 text) ≡ head.height
  rate : little_number 4 (drop 16 text) ≡ head.rate
  scale : little_number 4 (drop 20 text) ≡ head.scale
  following : drop len text ≡ t
  long : len ≤ length text

places : (v len : ℕ) (head : Head) (c : ℕ) (u t text : List ℕ) → FieldsFit v len head c → len ≡ 28 + length u → 4 ≤ length u
    → text ≡ codes "DKIF" ++ (little_bytes 2 v ++ (little_bytes 2 len ++ (codes "VP80" ++ (little_bytes 2 head.width ++ (little_bytes 2 head.height ++ (little_bytes 4 head.rate ++ (little_bytes 4 head.scale ++ (little_bytes 4 c ++ (u ++ t)))))))))
    → Places text len head t
places v len head c u t text fit long least e0 =
    let two = length-bytes_low_first 0 2 in
    let four = length-bytes_low_first 0 4 in
    let e4 = next 0 4 text (codes "DKIF") _ e0 refl in
    let e6 = next 4 2 text (little_bytes 2 v) _ e4 (two v) in
    let e8 = next 6 2 text (little_bytes 2 len) _ e6 (two len) in
    let e12 = next 8 4 text (codes "VP80") _ e8 refl in
    let e14 = next 12 2 text (little_bytes 2 head.width) _ e12 (two head.width) in
    let e16 = next 14 2 text (little_bytes 2 head.height) _ e14 (two head.height) in
    let e20 = next 16 4 text (little_bytes 4 head.rate) _ e16 (four head.rate) in
    let e24 = next 20 4 text (little_bytes 4 head.scale) _ e20 (four head.scale) in
    let e28 = next 24 4 text (little_bytes 4 c) _ e24 (four c) in
    let end : drop (28 + length u) text ≡ t = next 28 (length u) text u t e28 refl in
    let size : length (drop 28 text) ≡ length u + length t = ap length e28 ∙ length-append u t in
    record {
      magic = front 4 text (codes "DKIF") _ e0 refl;
      four_cc = front 4 (drop 8 text) (codes "VP80") _ e8 refl;
      told_len = reported 6 2 len text _ e6 fit.header;
      width = reported 12 2 head.width text _ e12 fit.width;
      height = reported 14 2 head.height text _ e14 fit.height;
      rate = reported 16 4 head.rate text _ e16 fit.rate;
      scale = reported 20 4 head.scale text _ e20 fit.scale;
      following = rw long end;
      long = omega (arith, size, length-drop 28 text);
    }

same_head : (h : Head) (w g r s : ℕ) → w ≡ h.width → g ≡ h.height → r ≡ h.rate → s ≡ h.scale → (let other : Head = record { width = w; height = g; rate = r; scale = s } in h ≡ other)
same_head h w g r s a b c d = rw (a, b, c, d) refl

-- a text of this form is read
pub text_is_ivf : (bytes : List ℕ) (file : Stream) → IsIvfText bytes file → IsIvf bytes file
text_is_ivf bytes file is =
    let len = 28 + length is.unused in
    let head = file.head in
    let following = records_text file.packets ++ is.rest in
    let whole = is.spelled
    ∙ regrouped (codes "DKIF") (little_bytes 2 is.version) (little_bytes 2 len) (codes "VP80") (little_bytes 2 head.width) (little_bytes 2 head.height) (little_bytes 4 head.rate) (little_bytes 4 head.scale) (little_bytes 4 is.count) is.unused (records_text file.packets) is.rest in
    let at = places is.version len head is.count is.unused following bytes is.fields refl is.least whole in
    let body_is : following ≡ body bytes = sym at.following ∙ ap (λ n. drop n bytes) (sym at.told_len) in
    record {
      header = (omega (arith, at.long, is.least), at.magic, at.four_cc, (omega (arith, at.told_len, is.least), omega (arith, at.told_len, at.long)));
      head = same_head head _ _ _ _ at.width at.height at.rate at.scale;
      rest = is.rest;
      records = subst (λ text. Records text file.packets is.rest) body_is (records_read file.packets is.rest is.packets);
      over = is.over;
      spare = is.spare;
      frame_rate = is.frame_rate;
      few = is.few;
    }

-- parts that are found in sequence
chained : (text m v l f w h r s c u b p t d4 d6 d8 d12 d14 d16 d20 d24 d28 : List ℕ)
    → text ≡ m ++ d4 → d4 ≡ v ++ d6 → d6 ≡ l ++ d8 → d8 ≡ f ++ d12 → d12 ≡ w ++ d14 → d14 ≡ h ++ d16 → d16 ≡ r ++ d20 → d20 ≡ s ++ d24 → d24 ≡ c ++ d28 → d28 ≡ u ++ b → b ≡ p ++ t
    → text ≡ m ++ v ++ l ++ f ++ w ++ h ++ r ++ s ++ c ++ u ++ p ++ t
chained text m v l f w h r s c u b p t d4 d6 d8 d12 d14 d16 d20 d24 d28 e0 e4 e6 e8 e12 e14 e16 e20 e24 e28 eb =
    let whole : text ≡ m ++ (v ++ (l ++ (f ++ (w ++ (h ++ (r ++ (s ++ (c ++ (u ++ (p ++ t)))))))))) = cc in
    whole ∙ sym (regrouped m v l f w h r s c u p t)

-- a part at an index
part_at : (k n : ℕ) (text part : List ℕ) → take n (drop k text) ≡ part → drop k text ≡ part ++ drop (k + n) text
part_at k n text part is_part =
    sym (take-append-drop n (drop k text)) ∙ ap (λ t. t ++ drop n (drop k text)) is_part ∙ ap (λ t. part ++ t) (drop-drop n k text)

-- a text that is read has this form
pub ivf_is_text : (bytes : List ℕ) (file : Stream) → IsBytes bytes → IsIvf bytes file → IsIvfText bytes file
ivf_is_text bytes file are is =
    let len = header_length bytes in
    let head = head_of bytes in
    let version = little_number 2 (drop 4 bytes) in
    let count = little_number 4 (drop 24 bytes) in
    let least : 32 ≤ len = is.header.3.0 in
    let ends : len ≤ length bytes = is.header.3.1 in
    let unused = take (len - 28) (drop 28 bytes) in
    let size : length unused ≡ len - 28 = length-take-le (len - 28) (drop 28 bytes) (omega (arith, length-drop 28 bytes)) in
    let reported : 28 + length unused ≡ len = omega arith in
    let last : 28 + (len - 28) ≡ len = omega arith in
    let records = records_spelled (body bytes) file.packets is.rest (bytes-drop len bytes are) is.records in
    let e28 : drop 28 bytes ≡ unused ++ body bytes = part_at 28 (len - 28) bytes unused refl ∙ ap (λ n. unused ++ drop n bytes) last in
    let below : (n k : ℕ) → little_number n (drop k bytes) < 256 ^ n = λ n k. little_from-lt 0 n (drop k bytes) (bytes-drop k bytes are) in
    let spelled : bytes ≡ fields_text version len head count ++ unused ++ records_text file.packets ++ is.rest =
    chained bytes (codes "DKIF") (little_bytes 2 version) (little_bytes 2 len) (codes "VP80") (little_bytes 2 head.width) (little_bytes 2 head.height) (little_bytes 4 head.rate) (little_bytes 4 head.scale) (little_bytes 4 count) unused (body bytes) (records_text file.packets) is.rest
    (drop 4 bytes) (drop 6 bytes) (drop 8 bytes) (drop 12 bytes) (drop 14 bytes) (drop 16 bytes) (drop 20 bytes) (drop 24 bytes) (drop 28 bytes)
    (part_at 0 4 bytes (codes "DKIF") is.header.1) (field_at 4 2 bytes are (omega arith)) (field_at 6 2 bytes are (omega arith)) (part_at 8 4 bytes (codes "VP80") is.header.2)
    (field_at 12 2 bytes are (omega arith)) (field_at 14 2 bytes are (omega arith)) (field_at 16 4 bytes are (omega arith)) (field_at 20 4 bytes are (omega arith)) (field_at 24 4 bytes are (omega arith))
    e28 records.0 in
    let fit : FieldsFit version len head count = record {
      version = below 2 4;
      header = below 2 6;
      width = below 2 12;
      height = below 2 14;
      rate = below 4 16;
      scale = below 4 20;
      count = below 4 24;
    } in
    let P : ℕ → Head → Type 0 = λ n h. (bytes ≡ fields_text version n h count ++ unused ++ records_text file.packets ++ is.rest) × FieldsFit version n h count in
    let at_len : P (28 + length unused) head = subst (λ n. P n head) (sym reported) (spelled, fit) in
    let at_head : P (28 + length unused) file.head = subst (P (28 + length unused)) (sym is.head) at_len in
    record {
      version = version;
      count = count;
      unused = unused;
      rest = is.rest;
      spelled = at_head.0;
      fields = at_head.1;
      packets = records.1;
      least = omega arith;
      over = is.over;
      spare = is.spare;
      frame_rate = is.frame_rate;
      few = is.few;
    }
