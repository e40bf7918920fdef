-- A text with a mark after it is read as the text is, and counts the bits taken in.
use Rattle.std.proofs.Common.{◌≡◌, ℕ, zero, suc, ◌+◌, ◌-◌, ◌*◌, ◌<◌, ◌≤◌, min, Bool, true, false, List, [], ◌∷◌, ◌++◌, length, replicate, refl, ap, sym, ◌∙◌, arith, append_assoc, inl, inr}
use Rattle.std.specs.Prelude.{nat_le, if◌then◌else◌}
use Rattle.std.proofs.lemmas.Bool.{lt-ltb, le-ltb, cases_lt}
use Rattle.std.proofs.lemmas.List.{length-append, length-replicate}
use Rattle.bool_coder.specs.Reader.{Reader, bit_string, next_bit, after_bit, trimmed, level, doubled, renewed, read, split_of, text_start, started}
use Rattle.bool_coder.specs.Chains.{Chain, done, ask, run}
use Rattle.bool_coder.specs.Taken.{shifts, taken_by_bit, taken, taken_from, marked}
use Rattle.bool_coder.proofs.Level.{read-level, trimmed-none, trimmed-padded}
use Rattle.bool_coder.proofs.Ends.{trimmed-whole, bit_string-append, bit_string-zeros, length-bit_string}

-- a reader with more bits after its own
extended : Reader → List ℕ → Reader
extended s more = record s { rest = s.rest ++ more }

reader_same : (range : ℕ) (rest rest' : List ℕ) (d d' : ℕ) → rest ≡ rest' → d ≡ d' → ◌≡◌ {A = Reader} (record { rest = rest; d = d; range = range }) (record { rest = rest'; d = d'; range = range })
reader_same range rest rest' d d' p q = cc

after-extended : (rest more : List ℕ) → 1 ≤ length rest → after_bit (rest ++ more) ≡ after_bit rest ++ more
after-extended [] more some = absurd (omega arith)
after-extended (bit ∷ rest) more some = refl

next-extended : (rest more : List ℕ) → 1 ≤ length rest → next_bit (rest ++ more) ≡ next_bit rest
next-extended [] more some = absurd (omega arith)
next-extended (bit ∷ rest) more some = refl

length-after : (rest : List ℕ) → length (after_bit rest) ≡ length rest - 1
length-after [] = refl
length-after (bit ∷ rest) = omega arith

doubled-extended : (s : Reader) (more : List ℕ) → 1 ≤ length s.rest → doubled (extended s more) ≡ extended (doubled s) more
unfolding extended
doubled-extended s more some = reader_same _ _ _ _ _ (after-extended s.rest more some) (ap (λ (bit : ℕ). min (2 * s.d + bit) (2 * s.range)) (next-extended s.rest more some))

-- a range is renewed by as many bits as it is doubled
renewed-extended : (fuel : ℕ) (s : Reader) (more : List ℕ) → shifts fuel s.range ≤ length s.rest → renewed fuel (extended s more) ≡ extended (renewed fuel s) more
unfolding renewed shifts extended
renewed-extended zero s more enough = refl
renewed-extended (suc fuel) s more enough =
    elim (cases_lt s.range 128) [
      | inl small ↦
          let here : 1 + shifts fuel (2 * s.range) ≤ length s.rest = rw (lt-ltb s.range 128 small) at enough in
          let some : 1 ≤ length s.rest = omega arith in
          let rest : shifts fuel (doubled s).range ≤ length (doubled s).rest = rw (length-after s.rest) (omega arith) in
          rw (lt-ltb s.range 128 small) (ap (renewed fuel) (doubled-extended s more some) ∙ renewed-extended fuel (doubled s) more rest)
      | inr large ↦ rw (le-ltb s.range 128 large) refl
    ]

renewed-length : (fuel : ℕ) (s : Reader) → length (renewed fuel s).rest ≡ length s.rest - shifts fuel s.range
unfolding renewed shifts
renewed-length zero s = omega arith
renewed-length (suc fuel) s =
    elim (cases_lt s.range 128) [
      | inl small ↦ rw (lt-ltb s.range 128 small) (renewed-length fuel (doubled s) ∙ rw (length-after s.rest) (omega arith))
      | inr large ↦ rw (le-ltb s.range 128 large) (omega arith)
    ]

-- so is a bit read
told-extended : (prob : ℕ) (s : Reader) (more : List ℕ) (bit : Bool) → nat_le (split_of prob s.range) s.d ≡ bit → taken_by_bit prob s ≤ length s.rest → read prob (extended s more) ≡ ((read prob s).0, extended (read prob s).1 more)
unfolding read taken_by_bit extended
told-extended prob s more true is enough =
    let here : shifts 7 (s.range - split_of prob s.range) ≤ length s.rest = rw is at enough in
    rw is (ap (λ (t : Reader). (true, t)) (renewed-extended 7 (record s { d = s.d - split_of prob s.range; range = s.range - split_of prob s.range }) more here))
told-extended prob s more false is enough =
    let here : shifts 7 (split_of prob s.range) ≤ length s.rest = rw is at enough in
    rw is (ap (λ (t : Reader). (false, t)) (renewed-extended 7 (record s { range = split_of prob s.range }) more here))

read-extended : (prob : ℕ) (s : Reader) (more : List ℕ) → taken_by_bit prob s ≤ length s.rest → read prob (extended s more) ≡ ((read prob s).0, extended (read prob s).1 more)
read-extended prob s more enough = told-extended prob s more _ refl enough

taken-extended : (prob : ℕ) (s : Reader) (more : List ℕ) → taken_by_bit prob (extended s more) ≡ taken_by_bit prob s
unfolding taken_by_bit extended
taken-extended prob s more = refl

told-length : (prob : ℕ) (s : Reader) (bit : Bool) → nat_le (split_of prob s.range) s.d ≡ bit → length (read prob s).1.rest ≡ length s.rest - taken_by_bit prob s
unfolding read taken_by_bit
told-length prob s true is = rw is (renewed-length 7 (record s { d = s.d - split_of prob s.range; range = s.range - split_of prob s.range }))
told-length prob s false is = rw is (renewed-length 7 (record s { range = split_of prob s.range }))

read-length : (prob : ℕ) (s : Reader) → length (read prob s).1.rest ≡ length s.rest - taken_by_bit prob s
read-length prob s = told-length prob s _ refl

-- chains of reads, by the bit that they branch on
branch-extended : {A : Type 0} (bit : Bool) (zeros ones : Chain A) (s : Reader) (more : List ℕ) → (if bit then taken ones s else taken zeros s) ≤ length s.rest → (taken zeros s ≤ length s.rest → run read zeros (extended s more) ≡ ((run read zeros s).0, extended (run read zeros s).1 more)) → (taken ones s ≤ length s.rest → run read ones (extended s more) ≡ ((run read ones s).0, extended (run read ones s).1 more)) → (if bit then run read ones (extended s more) else run read zeros (extended s more)) ≡ ((if bit then run read ones s else run read zeros s).0, extended (if bit then run read ones s else run read zeros s).1 more)
branch-extended true zeros ones s more enough z o = o enough
branch-extended false zeros ones s more enough z o = z enough

-- as long as its own bits suffice, a reader returns the same with more bits after them, and leaves those
run-extended : {A : Type 0} (c : Chain A) (s : Reader) (more : List ℕ) → taken c s ≤ length s.rest → run read c (extended s more) ≡ ((run read c s).0, extended (run read c s).1 more)
unfolding run taken
run-extended (done x) s more enough = refl
run-extended (ask prob zeros ones) s more enough =
    let here : read prob (extended s more) ≡ ((read prob s).0, extended (read prob s).1 more) = read-extended prob s more (omega arith) in
    let rest : (if (read prob s).0 then taken ones (read prob s).1 else taken zeros (read prob s).1) ≤ length (read prob s).1.rest = rw (read-length prob s) (omega arith) in
    rw here (branch-extended (read prob s).0 zeros ones (read prob s).1 more rest (run-extended zeros (read prob s).1 more) (run-extended ones (read prob s).1 more))

branch-late : {A : Type 0} (bit : Bool) (zeros ones : Chain A) (s : Reader) (more : List ℕ) → length s.rest < (if bit then taken ones s else taken zeros s) → (length s.rest < taken zeros s → length s.rest < taken zeros (extended s more)) → (length s.rest < taken ones s → length s.rest < taken ones (extended s more)) → length s.rest < (if bit then taken ones (extended s more) else taken zeros (extended s more))
branch-late true zeros ones s more late z o = o late
branch-late false zeros ones s more late z o = z late

-- one that takes in more bits than it has does so with more bits after them too
taken-late : {A : Type 0} (c : Chain A) (s : Reader) (more : List ℕ) → length s.rest < taken c s → length s.rest < taken c (extended s more)
unfolding taken
taken-late (done x) s more late = absurd (omega arith)
taken-late (ask prob zeros ones) s more late =
    elim (cases_lt (length s.rest) (taken_by_bit prob s)) [
      | inl short ↦ rw (taken-extended prob s more) (omega arith)
      | inr enough ↦
          let here : read prob (extended s more) ≡ ((read prob s).0, extended (read prob s).1 more) = read-extended prob s more enough in
          let length_is : length (read prob s).1.rest ≡ length s.rest - taken_by_bit prob s = read-length prob s in
          let after : length (read prob s).1.rest < (if (read prob s).0 then taken ones (read prob s).1 else taken zeros (read prob s).1) = omega arith in
          let later = branch-late (read prob s).0 zeros ones (read prob s).1 more after (taken-late zeros (read prob s).1 more) (taken-late ones (read prob s).1 more) in
          rw (taken-extended prob s more, here) (omega arith)
    ]

branch-length : {A : Type 0} (bit : Bool) (zeros ones : Chain A) (s : Reader) → length (run read zeros s).1.rest ≡ length s.rest - taken zeros s → length (run read ones s).1.rest ≡ length s.rest - taken ones s → length (if bit then run read ones s else run read zeros s).1.rest ≡ length s.rest - (if bit then taken ones s else taken zeros s)
branch-length true zeros ones s z o = o
branch-length false zeros ones s z o = z

run-length : {A : Type 0} (c : Chain A) (s : Reader) → length (run read c s).1.rest ≡ length s.rest - taken c s
unfolding run taken
run-length (done x) s = omega arith
run-length (ask prob zeros ones) s =
    branch-length (read prob s).0 zeros ones (read prob s).1 (run-length zeros (read prob s).1) (run-length ones (read prob s).1) ∙ rw (read-length prob s) (omega arith)

-- zeros at the end of its bits change nothing
branch-level : {A : Type 0} (bit : Bool) (zeros ones : Chain A) (s : Reader) → run read zeros (level s) ≡ ((run read zeros s).0, level (run read zeros s).1) → run read ones (level s) ≡ ((run read ones s).0, level (run read ones s).1) → (if bit then run read ones (level s) else run read zeros (level s)) ≡ ((if bit then run read ones s else run read zeros s).0, level (if bit then run read ones s else run read zeros s).1)
branch-level true zeros ones s z o = o
branch-level false zeros ones s z o = z

run-level : {A : Type 0} (c : Chain A) (s : Reader) → run read c (level s) ≡ ((run read c s).0, level (run read c s).1)
unfolding run
run-level (done x) s = refl
run-level (ask prob zeros ones) s =
    rw (read-level prob s) (branch-level (read prob s).0 zeros ones (read prob s).1 (run-level zeros (read prob s).1) (run-level ones (read prob s).1))

taken_by_bit-level : (prob : ℕ) (s : Reader) → taken_by_bit prob (level s) ≡ taken_by_bit prob s
unfolding taken_by_bit
taken_by_bit-level prob s = refl

taken-level : {A : Type 0} (c : Chain A) (s : Reader) → taken c (level s) ≡ taken c s
unfolding taken
taken-level (done x) s = refl
taken-level (ask prob zeros ones) s =
    rw (taken_by_bit-level prob s, read-level prob s, taken-level zeros (read prob s).1, taken-level ones (read prob s).1) refl

-- a reader whose bits end with a mark, next to one without
none_left : (bits : List ℕ) → length bits ≡ 0 → trimmed bits ≡ bits
none_left [] is = trimmed-none
none_left (bit ∷ bits) is = absurd (omega arith)

marked-left : {A : Type 0} (c : Chain A) (s : Reader) → length (run read c (level (extended s (1 ∷ [])))).1.rest ≡ length s.rest + 1 - taken c s
unfolding extended
marked-left {A = A} c s =
    let r : Reader = extended s (1 ∷ []) in
    let whole : length r.rest ≡ length s.rest + 1 = length-append s.rest (1 ∷ []) in
    let leveled : length (run read c (level r)).1.rest ≡ length (trimmed (run read c r).1.rest) = ap (λ (t : A × Reader). length t.1.rest) (run-level c r) in
    elim (cases_lt (length s.rest) (taken c s)) [
      | inl late ↦
          let more : length s.rest < taken c r = taken-late c s (1 ∷ []) late in
          let none : length (run read c r).1.rest ≡ 0 = run-length c r ∙ omega arith in
          leveled ∙ ap length (none_left (run read c r).1.rest none) ∙ none ∙ omega arith
      | inr enough ↦
          let after : run read c r ≡ ((run read c s).0, extended (run read c s).1 (1 ∷ [])) = run-extended c s (1 ∷ []) enough in
          let bits : trimmed (run read c r).1.rest ≡ (run read c s).1.rest ++ 1 ∷ [] = ap (λ (t : A × Reader). trimmed t.1.rest) after ∙ trimmed-whole (run read c s).1.rest in
          leveled ∙ ap length bits ∙ length-append (run read c s).1.rest (1 ∷ []) ∙ rw (run-length c s) (omega arith)
    ]

marked-value : {A : Type 0} (c : Chain A) (s : Reader) → taken c s ≤ length s.rest → (run read c (level (extended s (1 ∷ [])))).0 ≡ (run read c s).0
marked-value {A = A} c s enough = ap (λ (t : A × Reader). t.0) (run-level c (extended s (1 ∷ []))) ∙ ap (λ (t : A × Reader). t.0) (run-extended c s (1 ∷ []) enough)

-- the reader of a text and zero bytes after it, whose last seven bits are those before the mark
padded : ℕ → List ℕ → ℕ → Reader
padded byte bytes zeros = record { rest = bit_string (bytes ++ replicate zeros 0) ++ replicate 7 0; d = byte; range = 255 }

padded-level : (byte : ℕ) (bytes : List ℕ) (zeros : ℕ) → level (padded byte bytes zeros) ≡ level (record { rest = bit_string bytes; d = byte; range = 255 })
unfolding padded
padded-level byte bytes zeros =
    reader_same _ _ _ _ _ (trimmed-padded (bit_string (bytes ++ replicate zeros 0)) 7 ∙ rw (bit_string-append bytes (replicate zeros 0), bit_string-zeros zeros) (trimmed-padded (bit_string bytes) (8 * zeros))) refl

padded-marked : (byte : ℕ) (bytes : List ℕ) (zeros : ℕ) → text_start (byte ∷ (bytes ++ replicate zeros 0 ++ 1 ∷ [])) ≡ extended (padded byte bytes zeros) (1 ∷ [])
unfolding padded extended
padded-marked byte bytes zeros =
    reader_same _ _ _ _ _ (bit_string-append (bytes ++ replicate zeros 0) (1 ∷ []) ∙ sym (append_assoc (bit_string (bytes ++ replicate zeros 0)) (replicate 7 0) (1 ∷ []))) refl

padded-length : (byte : ℕ) (bytes : List ℕ) (zeros : ℕ) → length (padded byte bytes zeros).rest ≡ 8 * (length bytes + zeros) + 7
unfolding padded
padded-length byte bytes zeros =
    length-append (bit_string (bytes ++ replicate zeros 0)) (replicate 7 0) ∙ ap (λ (k : ℕ). k + 7) (length-bit_string (bytes ++ replicate zeros 0) ∙ ap (λ (k : ℕ). 8 * k) (length-append bytes (replicate zeros 0) ∙ ap (λ (k : ℕ). length bytes + k) (length-replicate zeros 0)))

-- the text's own reader takes in the same bits
padded-taken : {A : Type 0} (c : Chain A) (byte : ℕ) (bytes : List ℕ) (zeros : ℕ) → taken c (padded byte bytes zeros) ≡ taken c (level (record { rest = bit_string bytes; d = byte; range = 255 }))
padded-taken c byte bytes zeros = sym (taken-level c (padded byte bytes zeros)) ∙ ap (taken c) (padded-level byte bytes zeros)

padded-left : {A : Type 0} (c : Chain A) (byte : ℕ) (bytes : List ℕ) (zeros : ℕ) → length (run read c (started (byte ∷ (bytes ++ replicate zeros 0 ++ 1 ∷ [])))).1.rest ≡ 8 * (length bytes + zeros) + 8 - taken c (level (record { rest = bit_string bytes; d = byte; range = 255 }))
padded-left c byte bytes zeros =
    ap (λ (r : Reader). length (run read c (level r)).1.rest) (padded-marked byte bytes zeros) ∙ marked-left c (padded byte bytes zeros) ∙ rw (padded-length byte bytes zeros, padded-taken c byte bytes zeros) (omega arith)

padded-value : {A : Type 0} (c : Chain A) (byte : ℕ) (bytes : List ℕ) (zeros : ℕ) → taken c (level (record { rest = bit_string bytes; d = byte; range = 255 })) < 8 * (length bytes + zeros) + 8 → (run read c (started (byte ∷ (bytes ++ replicate zeros 0 ++ 1 ∷ [])))).0 ≡ (run read c (level (record { rest = bit_string bytes; d = byte; range = 255 }))).0
padded-value {A = A} c byte bytes zeros inside =
    let p : Reader = padded byte bytes zeros in
    let enough : taken c p ≤ length p.rest = omega (arith, padded-length byte bytes zeros, padded-taken c byte bytes zeros) in
    ap (λ (r : Reader). (run read c (level r)).0) (padded-marked byte bytes zeros) ∙ marked-value c p enough ∙ sym (ap (λ (t : A × Reader). t.0) (run-level c p)) ∙ ap (λ (r : Reader). (run read c r).0) (padded-level byte bytes zeros)

pub marks-left : {A : Type 0} (c : Chain A) (bytes : List ℕ) (zeros : ℕ) → length (run read c (started (marked zeros bytes))).1.rest ≡ 8 * (length bytes + zeros + 1) - taken_from c bytes
marks-left c [] zero = run-length c (started (1 ∷ [])) ∙ rw trimmed-none (omega arith)
marks-left c [] (suc zeros) = padded-left c 0 [] zeros ∙ omega arith
marks-left c (byte ∷ bytes) zeros = padded-left c byte bytes zeros ∙ omega arith

pub marks-value : {A : Type 0} (c : Chain A) (bytes : List ℕ) (zeros : ℕ) → taken_from c bytes < 8 * (length bytes + zeros + 1) → (run read c (started (marked zeros bytes))).0 ≡ (run read c (started bytes)).0
marks-value c [] zero inside = absurd (omega arith)
marks-value c [] (suc zeros) inside = padded-value c 0 [] zeros (omega arith)
marks-value c (byte ∷ bytes) zeros inside = padded-value c byte bytes zeros (omega arith)
