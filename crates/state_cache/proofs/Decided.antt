-- Equality of states is decidable, and so is whether an index is settled.
use Rattle.std.proofs.Common.{◌≡◌, ℕ, zero, suc, ◌+◌, ◌<◌, ◌≤◌, ◌⊎◌, inl, inr, Bool, true, false, List, [], ◌∷◌, Option, Some, None, Ok, Err, slice_get, map, refl, sym, ap, subst, ◌∙◌, arith}
use Rattle.std.specs.Prelude.{ℤ, pos, negsuc}
use Rattle.vp8_tables.specs.Tables.{TableEntries}
use Rattle.frame_header.specs.declared.context.Context.{Context}
use Rattle.frame_header.specs.declared.context.FilterDeltas.{FilterDeltas}
use Rattle.frame_header.specs.declared.context.Probabilities.{Probabilities}
use Rattle.frame_header.specs.declared.context.Segments.{Segments}
use Rattle.frame_header.specs.declared.context.SignBiases.{SignBiases}
use Rattle.pixel_planes.specs.Pictures.{PictureSamples}
use Rattle.pixel_planes.specs.Samples.{Samples}
use Rattle.reference_frames.specs.declared.references.References.{References}
use Rattle.reference_frames.specs.States.{StateValue}
use Rattle.state_cache.specs.declared.outcomes.Kept.{Kept}
use Rattle.state_cache.specs.Costs.{IsCachedAsDecoded, IsOneRun, IsSettled, cut_at}
use Rattle.stream_steps.specs.Decoding.{Outcome, outcomes}
use Rattle.state_cache.specs.Views.{MarkedPacket, View, cached_at, outcome_at}
use Rattle.state_cache.proofs.Runs.{same_or_not, up_to_or_behind}

-- a fact holds or does not
abbrev pub Decided : Type 0 → Type 0
Decided A = A ⊎ (A → ⊥)

both : (A B : Type 0) → Decided A → Decided B → Decided (A × B)
both A B (inl a) (inl b) = inl (a, b)
both A B (inl a) (inr unlike) = inr (λ p. unlike p.1)
both A B (inr unlike) b = inr (λ p. unlike p.0)

-- pairs, and records that are made from pairs
same_pair : (A B : Type 0) (a x : A) (b y : B) → Decided (a ≡ x) → Decided (b ≡ y) → Decided (let make : A → B → A × B = λ s t. (s, t) in make a b ≡ make x y)
same_pair A B a x b y (inl e) (inl f) = let make : A → B → A × B = λ s t. (s, t) in inl (ap (λ (s : A). make s b) e ∙ ap (λ (t : B). make x t) f)
same_pair A B a x b y (inl e) (inr unlike) = inr (λ p. unlike (ap (λ (q : A × B). q.1) p))
same_pair A B a x b y (inr unlike) f = inr (λ p. unlike (ap (λ (q : A × B). q.0) p))

by_parts : (R T : Type 0) (parts : R → T) (whole : T → R) (a b : R) → whole (parts a) ≡ a → whole (parts b) ≡ b → Decided (parts a ≡ parts b) → Decided (a ≡ b)
by_parts R T parts whole a b is_a is_b (inl e) = inl (sym is_a ∙ ap whole e ∙ is_b)
by_parts R T parts whole a b is_a is_b (inr unlike) = inr (λ e. unlike (ap parts e))

same_bool : (a b : Bool) → Decided (a ≡ b)
same_bool true true = inl refl
same_bool true false = inr (λ e. cc)
same_bool false true = inr (λ e. cc)
same_bool false false = inl refl

pos_case : (m n : ℕ) → Decided (m ≡ n) → Decided (pos m ≡ pos n)
pos_case m n (inl e) = inl (ap pos e)
pos_case m n (inr unlike) = inr (λ e. unlike (let is : m ≡ n = cc in is))

negative_case : (m n : ℕ) → Decided (m ≡ n) → Decided (negsuc m ≡ negsuc n)
negative_case m n (inl e) = inl (ap negsuc e)
negative_case m n (inr unlike) = inr (λ e. unlike (let is : m ≡ n = cc in is))

same_int : (a b : ℤ) → Decided (a ≡ b)
same_int (pos m) (pos n) = pos_case m n (same_or_not m n)
same_int (pos m) (negsuc n) = inr (λ e. cc)
same_int (negsuc m) (pos n) = inr (λ e. cc)
same_int (negsuc m) (negsuc n) = negative_case m n (same_or_not m n)

more_case : (A : Type 0) (x y : A) (xs ys : List A) → Decided (x ≡ y) → Decided (xs ≡ ys) → Decided (x ∷ xs ≡ y ∷ ys)
more_case A x y xs ys (inl e) (inl f) = inl (ap (λ (z : A). z ∷ xs) e ∙ ap (λ (zs : List A). y ∷ zs) f)
more_case A x y xs ys (inl e) (inr unlike) = inr (λ is. unlike (let f : xs ≡ ys = cc in f))
more_case A x y xs ys (inr unlike) f = inr (λ is. unlike (let e : x ≡ y = cc in e))

same_list : (A : Type 0) → ((x y : A) → Decided (x ≡ y)) → (xs ys : List A) → Decided (xs ≡ ys)
same_list A same [] [] = inl refl
same_list A same [] (y ∷ ys) = inr (λ e. cc)
same_list A same (x ∷ xs) [] = inr (λ e. cc)
same_list A same (x ∷ xs) (y ∷ ys) = more_case A x y xs ys (same x y) (same_list A same xs ys)

same_bytes : (xs ys : List ℕ) → Decided (xs ≡ ys)
same_bytes xs ys = same_list ℕ same_or_not xs ys

same_numbers : (xs ys : List ℤ) → Decided (xs ≡ ys)
same_numbers xs ys = same_list ℤ same_int xs ys

-- the parts of a state
same_probabilities : (a b : Probabilities) → Decided (a ≡ b)
same_probabilities a b =
    by_parts Probabilities ((List ℕ × List (List ℕ)) × (List ℕ × List ℕ)) (λ p. ((p.coefficients, p.vectors), (p.y_modes, p.uv_modes)))
    (λ t. record { coefficients = t.0.0; vectors = t.0.1; y_modes = t.1.0; uv_modes = t.1.1 }) a b refl refl
    (same_pair (List ℕ × List (List ℕ)) (List ℕ × List ℕ) (a.coefficients, a.vectors) (b.coefficients, b.vectors) (a.y_modes, a.uv_modes) (b.y_modes, b.uv_modes)
    (same_pair (List ℕ) (List (List ℕ)) a.coefficients b.coefficients a.vectors b.vectors (same_bytes a.coefficients b.coefficients) (same_list (List ℕ) same_bytes a.vectors b.vectors))
    (same_pair (List ℕ) (List ℕ) a.y_modes b.y_modes a.uv_modes b.uv_modes (same_bytes a.y_modes b.y_modes) (same_bytes a.uv_modes b.uv_modes)))

same_segments : (a b : Segments) → Decided (a ≡ b)
same_segments a b =
    by_parts Segments (Bool × (List ℤ × List ℤ)) (λ s. (s.is_absolute, (s.quantizers, s.levels))) (λ t. record { is_absolute = t.0; quantizers = t.1.0; levels = t.1.1 }) a b refl refl
    (same_pair Bool (List ℤ × List ℤ) a.is_absolute b.is_absolute (a.quantizers, a.levels) (b.quantizers, b.levels) (same_bool a.is_absolute b.is_absolute)
    (same_pair (List ℤ) (List ℤ) a.quantizers b.quantizers a.levels b.levels (same_numbers a.quantizers b.quantizers) (same_numbers a.levels b.levels)))

same_deltas : (a b : FilterDeltas) → Decided (a ≡ b)
same_deltas a b =
    by_parts FilterDeltas (List ℤ × List ℤ) (λ d. (d.reference, d.mode)) (λ t. record { reference = t.0; mode = t.1 }) a b refl refl
    (same_pair (List ℤ) (List ℤ) a.reference b.reference a.mode b.mode (same_numbers a.reference b.reference) (same_numbers a.mode b.mode))

same_biases : (a b : SignBiases) → Decided (a ≡ b)
same_biases a b =
    by_parts SignBiases (Bool × Bool) (λ s. (s.golden, s.altref)) (λ t. record { golden = t.0; altref = t.1 }) a b refl refl
    (same_pair Bool Bool a.golden b.golden a.altref b.altref (same_bool a.golden b.golden) (same_bool a.altref b.altref))

same_context : (a b : Context) → Decided (a ≡ b)
same_context a b =
    by_parts Context ((Probabilities × Segments) × (FilterDeltas × SignBiases)) (λ c. ((c.probabilities, c.segments), (c.deltas, c.sign_biases)))
    (λ t. record { probabilities = t.0.0; segments = t.0.1; deltas = t.1.0; sign_biases = t.1.1 }) a b refl refl
    (same_pair (Probabilities × Segments) (FilterDeltas × SignBiases) (a.probabilities, a.segments) (b.probabilities, b.segments) (a.deltas, a.sign_biases) (b.deltas, b.sign_biases)
    (same_pair Probabilities Segments a.probabilities b.probabilities a.segments b.segments (same_probabilities a.probabilities b.probabilities) (same_segments a.segments b.segments))
    (same_pair FilterDeltas SignBiases a.deltas b.deltas a.sign_biases b.sign_biases (same_deltas a.deltas b.deltas) (same_biases a.sign_biases b.sign_biases)))

same_samples : (a b : Samples) → Decided (a ≡ b)
same_samples a b =
    by_parts Samples (ℕ × (ℕ × List ℕ)) (λ s. (s.width, (s.height, s.samples))) (λ t. record { width = t.0; height = t.1.0; samples = t.1.1 }) a b refl refl
    (same_pair ℕ (ℕ × List ℕ) a.width b.width (a.height, a.samples) (b.height, b.samples) (same_or_not a.width b.width)
    (same_pair ℕ (List ℕ) a.height b.height a.samples b.samples (same_or_not a.height b.height) (same_bytes a.samples b.samples)))

same_picture : (a b : PictureSamples) → Decided (a ≡ b)
same_picture a b =
    by_parts PictureSamples ((ℕ × ℕ) × (Samples × (Samples × Samples))) (λ p. ((p.width, p.height), (p.luma, (p.cb, p.cr)))) (λ t. record { width = t.0.0; height = t.0.1; luma = t.1.0; cb = t.1.1.0; cr = t.1.1.1 }) a b refl refl
    (same_pair (ℕ × ℕ) (Samples × (Samples × Samples)) (a.width, a.height) (b.width, b.height) (a.luma, (a.cb, a.cr)) (b.luma, (b.cb, b.cr))
    (same_pair ℕ ℕ a.width b.width a.height b.height (same_or_not a.width b.width) (same_or_not a.height b.height))
    (same_pair Samples (Samples × Samples) a.luma b.luma (a.cb, a.cr) (b.cb, b.cr) (same_samples a.luma b.luma) (same_pair Samples Samples a.cb b.cb a.cr b.cr (same_samples a.cb b.cb) (same_samples a.cr b.cr))))

same_references : (a b : References) → Decided (a ≡ b)
same_references a b =
    by_parts References (PictureSamples × (PictureSamples × PictureSamples)) (λ r. (r.last, (r.golden, r.altref))) (λ t. record { last = t.0; golden = t.1.0; altref = t.1.1 }) a b refl refl
    (same_pair PictureSamples (PictureSamples × PictureSamples) a.last b.last (a.golden, a.altref) (b.golden, b.altref) (same_picture a.last b.last)
    (same_pair PictureSamples PictureSamples a.golden b.golden a.altref b.altref (same_picture a.golden b.golden) (same_picture a.altref b.altref)))

pub same_state : (a b : StateValue) → Decided (a ≡ b)
same_state a b =
    by_parts StateValue (Context × (List ℕ × References)) (λ s. (s.context, (s.segment_map, s.references))) (λ t. record { context = t.0; segment_map = t.1.0; references = t.1.1 }) a b refl refl
    (same_pair Context (List ℕ × References) a.context b.context (a.segment_map, a.references) (b.segment_map, b.references) (same_context a.context b.context)
    (same_pair (List ℕ) References a.segment_map b.segment_map a.references b.references (same_bytes a.segment_map b.segment_map) (same_references a.references b.references)))

-- whether some number below n has a property that is decided
below_case : (P : ℕ → Type 0) (n : ℕ) → Decided (P n) → Decided ((k : ℕ) × ((k < n) × P k)) → Decided ((k : ℕ) × ((k < suc n) × P k))
below_case P n (inl here) rest = inl (n, (omega arith, here))
below_case P n (inr unlike) (inl found) = let low : found.0 < n = found.1.0 in inl (found.0, (omega (arith, low), found.1.1))
below_case P n (inr unlike) (inr none) = inr (λ found. last_case found (same_or_not found.0 n))
  where
    last_case : (found : (k : ℕ) × ((k < suc n) × P k)) → (found.0 ≡ n) ⊎ (found.0 ≡ n → ⊥) → ⊥
    last_case found (inl same) = unlike (subst P same found.1.1)
    last_case found (inr other) = let low : found.0 < suc n = found.1.0 in none (found.0, (omega (arith, low, other), found.1.1))

some_below : (P : ℕ → Type 0) → ((k : ℕ) → Decided (P k)) → (n : ℕ) → Decided ((k : ℕ) × ((k < n) × P k))
some_below P decide zero = inr (λ found. let low : found.0 < 0 = found.1.0 in omega (arith, low))
some_below P decide (suc n) = below_case P n (decide n) (some_below P decide n)

up_to_case : (m n : ℕ) → (m ≤ n) ⊎ (n < m) → Decided (m ≤ n)
up_to_case m n (inl low) = inl low
up_to_case m n (inr high) = inr (λ low. omega (arith, low, high))

up_to : (m n : ℕ) → Decided (m ≤ n)
up_to m n = up_to_case m n (up_to_or_behind m n)

below_is : (m n : ℕ) → Decided (m + 1 ≤ n) → Decided (m < n)
below_is m n (inl low) = inl (omega (arith, low))
below_is m n (inr unlike) = inr (λ low. unlike (omega (arith, low)))

below : (m n : ℕ) → Decided (m < n)
below m n = below_is m n (up_to (m + 1) n)

is_false : (b : Bool) → (b ≡ true → ⊥) → b ≡ false
is_false true unlike = absurd (unlike refl)
is_false false unlike = refl

module _ (tables : TableEntries) (xs : List MarkedPacket) (kept : View) (place : ℕ) where
  -- a cut between two indexes
  abbrev IsCutBetween : ℕ → ℕ → ℕ → Type 0
  IsCutBetween from to p = (from < p) × (cut_at xs p ≡ true)

  run_case : (from to : ℕ) → Decided ((p : ℕ) × ((p < to + 1) × IsCutBetween from to p)) → Decided (IsOneRun xs from to)
  run_case from to (inl cut) = inr (λ run.
      let low : cut.0 < to + 1 = cut.1.0 in
      let off : cut_at xs cut.0 ≡ false = run cut.0 cut.1.1.0 (omega (arith, low)) in
      let on : cut_at xs cut.0 ≡ true = cut.1.1.1 in
      cc)
  run_case from to (inr none) = inl (λ p lo hi. is_false (cut_at xs p) (λ on. none (p, (omega (arith, hi), (lo, on)))))

  one_run : (from to : ℕ) → Decided (IsOneRun xs from to)
  one_run from to =
      run_case from to
      (some_below (IsCutBetween from to) (λ p. both (from < p) (cut_at xs p ≡ true) (below from p) (same_bool (cut_at xs p) true)) (to + 1))

  -- whether what is cached at an index is as decoded
  abbrev decoded_at : ℕ → Option Outcome
  decoded_at p = slice_get (outcomes tables (map (λ packet. packet.bytes) xs)) p

  abbrev good : StateValue → PictureSamples → Option Outcome
  good state picture = Some (Ok (state, picture))

  state_case : (p : ℕ) (k : Kept) (state : StateValue) (picture : PictureSamples) → outcome_at xs kept p ≡ Some k → decoded_at p ≡ Some (Ok (state, picture)) → Decided (k.state ≡ state) → Decided (IsCachedAsDecoded tables xs kept p)
  state_case p k state picture is was (inl same) = inl (record {
    outcome = k;
    picture = picture;
    is_cached = is;
    is_decoded = was ∙ ap (λ (s : StateValue). Some (Ok (s, picture))) (sym same);
  })
  state_case p k state picture is was (inr other) = inr (λ d.
      let one : Some d.outcome ≡ Some k = sym d.is_cached ∙ is in
      let two : good d.outcome.state d.picture ≡ good state picture = sym d.is_decoded ∙ was in
      other (ap (λ (o : Kept). o.state) (sym (some_same Kept d.outcome k one)) ∙ ok_same d.outcome.state state d.picture picture two))
    where
      some_same : (A : Type 0) (x y : A) → Some x ≡ Some y → x ≡ y
      some_same A x y e = cc

      ok_same : (s t : StateValue) (q r : PictureSamples) → good s q ≡ good t r → s ≡ t
      ok_same s t q r e =
          let pair : StateValue → PictureSamples → StateValue × PictureSamples = λ a b. (a, b) in
          let is : pair s q ≡ pair t r = cc in
          ap (λ (p : StateValue × PictureSamples). p.0) is

  decoded_case : (p : ℕ) (k : Kept) (o : Option Outcome) → outcome_at xs kept p ≡ Some k → decoded_at p ≡ o → Decided (IsCachedAsDecoded tables xs kept p)
  decoded_case p k None is was = inr (λ d. let unlike : None ≡ Some (Ok (d.outcome.state, d.picture)) = sym was ∙ d.is_decoded in cc)
  decoded_case p k (Some (Err broken)) is was = inr (λ d. let unlike : Some (Err broken) ≡ Some (Ok (d.outcome.state, d.picture)) = sym was ∙ d.is_decoded in cc)
  decoded_case p k (Some (Ok decoded)) is was = state_case p k decoded.0 decoded.1 is was (same_state k.state decoded.0)

  kept_case : (p : ℕ) (o : Option Kept) → outcome_at xs kept p ≡ o → Decided (IsCachedAsDecoded tables xs kept p)
  kept_case p None is = inr (λ d. let unlike : None ≡ Some d.outcome = sym is ∙ d.is_cached in cc)
  kept_case p (Some k) is = decoded_case p k (decoded_at p) is refl

  as_decoded : (p : ℕ) → Decided (IsCachedAsDecoded tables xs kept p)
  as_decoded p = kept_case p (outcome_at xs kept p) refl

  -- two indexes that settle one between them
  abbrev Settles : ℕ → ℕ → ℕ → Type 0
  Settles p from to = ((p ≤ to) × IsOneRun xs from to) × (IsCachedAsDecoded tables xs kept from × (cached_at xs kept to ≡ true))

  settles : (p from to : ℕ) → Decided (Settles p from to)
  settles p from to =
      both ((p ≤ to) × IsOneRun xs from to) (IsCachedAsDecoded tables xs kept from × (cached_at xs kept to ≡ true))
      (both (p ≤ to) (IsOneRun xs from to) (up_to p to) (one_run from to))
      (both (IsCachedAsDecoded tables xs kept from) (cached_at xs kept to ≡ true) (as_decoded from) (same_bool (cached_at xs kept to) true))

  abbrev SettledFrom : ℕ → ℕ → Type 0
  SettledFrom p from = (to : ℕ) × ((to < place + 1) × Settles p from to)

  settled_case : (p : ℕ) → Decided ((from : ℕ) × ((from < p) × SettledFrom p from)) → Decided (IsSettled tables xs kept place p)
  settled_case p (inl found) =
      let to = found.1.1 in
      let within : to.0 < place + 1 = to.1.0 in
      let s = to.1.1 in
      inl (record {
        from = found.0;
        to = to.0;
        before = found.1.0;
        following = s.0.0;
        within = omega (arith, within);
        one_run = s.0.1;
        decoded = s.1.0;
        is_cached = s.1.1;
      })
  settled_case p (inr none) = inr (λ s.
      let within : s.to ≤ place = s.within in
      none (s.from, (s.before, (s.to, (omega (arith, within), ((s.following, s.one_run), (s.decoded, s.is_cached)))))))

  pub settled_or_not : (p : ℕ) → Decided (IsSettled tables xs kept place p)
  settled_or_not p = settled_case p (some_below (SettledFrom p) (λ from. some_below (Settles p from) (settles p from) (place + 1)) p)
