-- The elements of chunks of which one is changed.
use Rattle.std.proofs.Common.{◌≡◌, ℕ, zero, suc, ◌+◌, ◌-◌, ◌<◌, ◌≤◌, List, [], ◌∷◌, ◌++◌, length, map, get_or, slice_get, slice_set, Some, refl, sym, ap, ◌∙◌, append_assoc, append-nil, take, zero-add, arith}
use Rattle.std.specs.List.{insert, remove}
use Rattle.std.specs.declared.collections.VecDeque.{VecDeque}
use Rattle.std.proofs.lemmas.List.Edits.{insert-append_left, insert-append_right, remove-append_left, remove-append_right}
use Rattle.std.proofs.lemmas.List.{set-append_left}
use Rattle.chunked_list.specs.Chunks.{before, joined, sizes}

-- a list whose first element is removed
pub first_out : {T : Type 0} (xs rest : List T) (x : T) → slice_get xs 0 ≡ Some x → rest ≡ remove xs 0 → xs ≡ x ∷ rest
first_out [] rest x here is = cc
first_out (y ∷ xs) rest x here is = let same : y ≡ x = cc in ap (λ z. z ∷ xs) same ∙ ap (λ zs. x ∷ zs) (sym is)

no_elements : {T : Type 0} (xs : List T) → length xs ≡ 0 → xs ≡ []
no_elements [] none = refl
no_elements (x ∷ xs) none = cc

read_is : {T : Type 0} (xs : List T) (r : ℕ) (x : T) → r < length xs → x ≡ get_or xs r x → slice_get xs r ≡ Some x
read_is [] r x within is = absurd (omega arith)
read_is (y ∷ xs) zero x within is = ap (λ z. Some z) (sym is)
read_is (y ∷ xs) (suc r) x within is = read_is xs r x (omega arith) is

-- edits of the second of two lists
on : (n m r : ℕ) → n + m + r - n ≡ m + r
on n m r = omega arith

insert_on : {T : Type 0} (xs ys : List T) (n m r : ℕ) (y : T) → length xs ≡ n → insert (xs ++ ys) (n + m + r) y ≡ xs ++ insert ys (m + r) y
insert_on xs ys n m r y long = insert-append_right xs ys n (n + m + r) y long (omega arith) ∙ ap (λ (i : ℕ). xs ++ insert ys i y) (on n m r)

remove_on : {T : Type 0} (xs ys : List T) (n m r : ℕ) → length xs ≡ n → remove (xs ++ ys) (n + m + r) ≡ xs ++ remove ys (m + r)
remove_on xs ys n m r long = remove-append_right xs ys n (n + m + r) long (omega arith) ∙ ap (λ (i : ℕ). xs ++ remove ys i) (on n m r)

get_left : {T : Type 0} (xs ys : List T) (i : ℕ) → i < length xs → slice_get (xs ++ ys) i ≡ slice_get xs i
get_left [] ys i within = absurd (omega arith)
get_left (x ∷ xs) ys zero within = refl
get_left (x ∷ xs) ys (suc i) within = get_left xs ys i (omega arith)

get_on : {T : Type 0} (xs ys : List T) (n m r : ℕ) → length xs ≡ n → slice_get (xs ++ ys) (n + m + r) ≡ slice_get ys (m + r)
get_on [] ys n m r long = let same : n + m + r ≡ m + r = omega (arith, long) in ap (λ (i : ℕ). slice_get ys i) same
get_on (x ∷ xs) ys zero m r long = cc
get_on (x ∷ xs) ys (suc n) m r long = let same : suc n + m + r ≡ suc (n + m + r) = omega arith in ap (λ (i : ℕ). slice_get (x ∷ xs ++ ys) i) same ∙ get_on xs ys n m r (omega (arith, long))

set_on : {T : Type 0} (xs ys : List T) (n m r : ℕ) (y : T) → length xs ≡ n → slice_set (xs ++ ys) (n + m + r) y ≡ xs ++ slice_set ys (m + r) y
set_on [] ys n m r y long = let same : n + m + r ≡ m + r = omega (arith, long) in ap (λ (i : ℕ). slice_set ys i y) same
set_on (x ∷ xs) ys zero m r y long = cc
set_on (x ∷ xs) ys (suc n) m r y long = let same : suc n + m + r ≡ suc (n + m + r) = omega arith in ap (λ (i : ℕ). slice_set (x ∷ xs ++ ys) i y) same ∙ ap (λ zs. x ∷ zs) (set_on xs ys n m r y (omega (arith, long)))

module _ {T Z : Type 0} where
  -- the elements with one more between chunk k - 1 and chunk k
  abbrev pub with_between : ℕ → T → List (VecDeque T Z) → List T
  with_between zero x chunks = x ∷ joined chunks
  with_between (suc k) x [] = x ∷ []
  with_between (suc k) x (chunk ∷ chunks) = chunk.items ++ with_between k x chunks

  -- an element enters chunk k in front, and another leaves it at its end
  pub passed_up : (k : ℕ) (chunks : List (VecDeque T Z)) (old new : VecDeque T Z) (x y : T) → k < length chunks → old ≡ get_or chunks k old → x ∷ old.items ≡ new.items ++ y ∷ [] → with_between (suc k) y (slice_set chunks k new) ≡ with_between k x chunks
  passed_up k [] old new x y within is same = absurd (omega arith)
  passed_up zero (chunk ∷ chunks) old new x y within is same =
      sym (append_assoc new.items (y ∷ []) (joined chunks)) ∙ ap (λ (xs : List T). xs ++ joined chunks) (sym same) ∙ ap (λ (q : VecDeque T Z). x ∷ (q.items ++ joined chunks)) is
  passed_up (suc k) (chunk ∷ chunks) old new x y within is same = ap (λ (xs : List T). chunk.items ++ xs) (passed_up k chunks old new x y (omega arith) is same)

  -- an element enters chunk k at its end, and another leaves it in front
  pub passed_down : (k : ℕ) (chunks : List (VecDeque T Z)) (old new : VecDeque T Z) (x y : T) → k < length chunks → old ≡ get_or chunks k old → y ∷ new.items ≡ old.items ++ x ∷ [] → with_between k y (slice_set chunks k new) ≡ with_between (suc k) x chunks
  passed_down k [] old new x y within is same = absurd (omega arith)
  passed_down zero (chunk ∷ chunks) old new x y within is same =
      ap (λ (xs : List T). xs ++ joined chunks) same ∙ append_assoc old.items (x ∷ []) (joined chunks) ∙ ap (λ (q : VecDeque T Z). q.items ++ (x ∷ joined chunks)) is
  passed_down (suc k) (chunk ∷ chunks) old new x y within is same = ap (λ (xs : List T). chunk.items ++ xs) (passed_down k chunks old new x y (omega arith) is same)

  -- an element enters chunk k in front
  pub entered : (k : ℕ) (chunks : List (VecDeque T Z)) (old new : VecDeque T Z) (x : T) → k < length chunks → old ≡ get_or chunks k old → new.items ≡ x ∷ old.items → joined (slice_set chunks k new) ≡ with_between k x chunks
  entered k [] old new x within is same = absurd (omega arith)
  entered zero (chunk ∷ chunks) old new x within is same =
      ap (λ (xs : List T). xs ++ joined chunks) same ∙ ap (λ (q : VecDeque T Z). x ∷ (q.items ++ joined chunks)) is
  entered (suc k) (chunk ∷ chunks) old new x within is same = ap (λ (xs : List T). chunk.items ++ xs) (entered k chunks old new x (omega arith) is same)

  -- an element leaves chunk k in front
  pub left_front : (k : ℕ) (chunks : List (VecDeque T Z)) (old new : VecDeque T Z) (x : T) → k < length chunks → old ≡ get_or chunks k old → old.items ≡ x ∷ new.items → with_between k x (slice_set chunks k new) ≡ joined chunks
  left_front k [] old new x within is same = absurd (omega arith)
  left_front zero (chunk ∷ chunks) old new x within is same =
      ap (λ (xs : List T). xs ++ joined chunks) (sym same) ∙ ap (λ (q : VecDeque T Z). q.items ++ joined chunks) is
  left_front (suc k) (chunk ∷ chunks) old new x within is same = ap (λ (xs : List T). chunk.items ++ xs) (left_front k chunks old new x (omega arith) is same)

  -- the length of a chunk is that of its elements
  as_long : (chunk : VecDeque T Z) → length chunk.items ≡ chunk.len
  as_long chunk = sym chunk.ok.0

  -- an index within a chunk
  within_chunk : (old chunk : VecDeque T Z) (r : ℕ) → old ≡ chunk → r ≤ old.len → r ≤ length chunk.items
  within_chunk old chunk r is fits =
      let same : old.len ≡ chunk.len = ap (λ (q : VecDeque T Z). q.len) is in
      let long : length chunk.items ≡ chunk.len = as_long chunk in
      omega (arith, same, long, fits)

  below_chunk : (old chunk : VecDeque T Z) (r : ℕ) → old ≡ chunk → r < old.len → r < length chunk.items
  below_chunk old chunk r is fits =
      let same : old.len ≡ chunk.len = ap (λ (q : VecDeque T Z). q.len) is in
      let long : length chunk.items ≡ chunk.len = as_long chunk in
      omega (arith, same, long, fits)

  -- an element inserted into chunk k
  pub inserted_in : (k r : ℕ) (chunks : List (VecDeque T Z)) (old new : VecDeque T Z) (x : T) → k < length chunks → old ≡ get_or chunks k old → r ≤ old.len → new.items ≡ insert old.items r x → joined (slice_set chunks k new) ≡ insert (joined chunks) (before k (sizes chunks) + r) x
  inserted_in k r [] old new x within is fits same = absurd (omega arith)
  inserted_in zero r (chunk ∷ chunks) old new x within is fits same =
      ap (λ (xs : List T). xs ++ joined chunks) (same ∙ ap (λ (q : VecDeque T Z). insert q.items r x) is)
      ∙ sym (insert-append_left chunk.items (joined chunks) r x (within_chunk old chunk r is fits))
      ∙ ap (λ (i : ℕ). insert (chunk.items ++ joined chunks) i x) (sym (zero-add r))
  inserted_in (suc k) r (chunk ∷ chunks) old new x within is fits same =
      ap (λ (xs : List T). chunk.items ++ xs) (inserted_in k r chunks old new x (omega arith) is fits same) ∙ sym (insert_on chunk.items (joined chunks) chunk.len (before k (sizes chunks)) r x (as_long chunk))

  -- the same if the last element leaves the chunk
  pub inserted_over : (k r : ℕ) (chunks : List (VecDeque T Z)) (old new : VecDeque T Z) (x y : T) → k < length chunks → old ≡ get_or chunks k old → r ≤ old.len → insert old.items r x ≡ new.items ++ y ∷ [] → with_between (suc k) y (slice_set chunks k new) ≡ insert (joined chunks) (before k (sizes chunks) + r) x
  inserted_over k r [] old new x y within is fits same = absurd (omega arith)
  inserted_over zero r (chunk ∷ chunks) old new x y within is fits same =
      sym (append_assoc new.items (y ∷ []) (joined chunks))
      ∙ ap (λ (xs : List T). xs ++ joined chunks) (sym same ∙ ap (λ (q : VecDeque T Z). insert q.items r x) is)
      ∙ sym (insert-append_left chunk.items (joined chunks) r x (within_chunk old chunk r is fits))
      ∙ ap (λ (i : ℕ). insert (chunk.items ++ joined chunks) i x) (sym (zero-add r))
  inserted_over (suc k) r (chunk ∷ chunks) old new x y within is fits same =
      ap (λ (xs : List T). chunk.items ++ xs) (inserted_over k r chunks old new x y (omega arith) is fits same) ∙ sym (insert_on chunk.items (joined chunks) chunk.len (before k (sizes chunks)) r x (as_long chunk))

  -- an element removed from chunk k
  pub removed_from : (k r : ℕ) (chunks : List (VecDeque T Z)) (old new : VecDeque T Z) → k < length chunks → old ≡ get_or chunks k old → r < old.len → new.items ≡ remove old.items r → joined (slice_set chunks k new) ≡ remove (joined chunks) (before k (sizes chunks) + r)
  removed_from k r [] old new within is fits same = absurd (omega arith)
  removed_from zero r (chunk ∷ chunks) old new within is fits same =
      ap (λ (xs : List T). xs ++ joined chunks) (same ∙ ap (λ (q : VecDeque T Z). remove q.items r) is)
      ∙ sym (remove-append_left chunk.items (joined chunks) r (below_chunk old chunk r is fits))
      ∙ ap (λ (i : ℕ). remove (chunk.items ++ joined chunks) i) (sym (zero-add r))
  removed_from (suc k) r (chunk ∷ chunks) old new within is fits same =
      ap (λ (xs : List T). chunk.items ++ xs) (removed_from k r chunks old new (omega arith) is fits same) ∙ sym (remove_on chunk.items (joined chunks) chunk.len (before k (sizes chunks)) r (as_long chunk))

  -- the same if the element after the chunk enters it
  pub removed_over : (k r : ℕ) (chunks : List (VecDeque T Z)) (old new : VecDeque T Z) (y : T) → k < length chunks → old ≡ get_or chunks k old → r < old.len → new.items ≡ remove old.items r ++ y ∷ [] → joined (slice_set chunks k new) ≡ remove (with_between (suc k) y chunks) (before k (sizes chunks) + r)
  removed_over k r [] old new y within is fits same = absurd (omega arith)
  removed_over zero r (chunk ∷ chunks) old new y within is fits same =
      ap (λ (xs : List T). xs ++ joined chunks) (same ∙ ap (λ (q : VecDeque T Z). remove q.items r ++ y ∷ []) is)
      ∙ append_assoc (remove chunk.items r) (y ∷ []) (joined chunks)
      ∙ sym (remove-append_left chunk.items (y ∷ joined chunks) r (below_chunk old chunk r is fits))
      ∙ ap (λ (i : ℕ). remove (chunk.items ++ (y ∷ joined chunks)) i) (sym (zero-add r))
  removed_over (suc k) r (chunk ∷ chunks) old new y within is fits same =
      ap (λ (xs : List T). chunk.items ++ xs) (removed_over k r chunks old new y (omega arith) is fits same) ∙ sym (remove_on chunk.items (with_between (suc k) y chunks) chunk.len (before k (sizes chunks)) r (as_long chunk))

  -- the element at an index of chunk k
  pub element_of : (k r : ℕ) (chunks : List (VecDeque T Z)) (old : VecDeque T Z) (x : T) → k < length chunks → old ≡ get_or chunks k old → r < old.len → slice_get old.items r ≡ Some x → slice_get (joined chunks) (before k (sizes chunks) + r) ≡ Some x
  element_of k r [] old x within is fits here = absurd (omega arith)
  element_of zero r (chunk ∷ chunks) old x within is fits here =
      ap (λ (i : ℕ). slice_get (chunk.items ++ joined chunks) i) (zero-add r)
      ∙ get_left chunk.items (joined chunks) r (below_chunk old chunk r is fits)
      ∙ ap (λ (q : VecDeque T Z). slice_get q.items r) (sym is) ∙ here
  element_of (suc k) r (chunk ∷ chunks) old x within is fits here =
      get_on chunk.items (joined chunks) chunk.len (before k (sizes chunks)) r (as_long chunk) ∙ element_of k r chunks old x (omega arith) is fits here

  pub element_between : (k r : ℕ) (chunks : List (VecDeque T Z)) (old : VecDeque T Z) (x y : T) → k < length chunks → old ≡ get_or chunks k old → r < old.len → slice_get old.items r ≡ Some x → slice_get (with_between (suc k) y chunks) (before k (sizes chunks) + r) ≡ Some x
  element_between k r [] old x y within is fits here = absurd (omega arith)
  element_between zero r (chunk ∷ chunks) old x y within is fits here =
      ap (λ (i : ℕ). slice_get (chunk.items ++ (y ∷ joined chunks)) i) (zero-add r)
      ∙ get_left chunk.items (y ∷ joined chunks) r (below_chunk old chunk r is fits)
      ∙ ap (λ (q : VecDeque T Z). slice_get q.items r) (sym is) ∙ here
  element_between (suc k) r (chunk ∷ chunks) old x y within is fits here =
      get_on chunk.items (with_between (suc k) y chunks) chunk.len (before k (sizes chunks)) r (as_long chunk) ∙ element_between k r chunks old x y (omega arith) is fits here

  -- an element of chunk k overwritten
  pub set_in : (k r : ℕ) (chunks : List (VecDeque T Z)) (old new : VecDeque T Z) (x : T) → k < length chunks → old ≡ get_or chunks k old → r < old.len → new.items ≡ slice_set old.items r x → joined (slice_set chunks k new) ≡ slice_set (joined chunks) (before k (sizes chunks) + r) x
  set_in k r [] old new x within is fits same = absurd (omega arith)
  set_in zero r (chunk ∷ chunks) old new x within is fits same =
      ap (λ (xs : List T). xs ++ joined chunks) (same ∙ ap (λ (q : VecDeque T Z). slice_set q.items r x) is)
      ∙ sym (set-append_left chunk.items (joined chunks) r x (below_chunk old chunk r is fits))
      ∙ ap (λ (i : ℕ). slice_set (chunk.items ++ joined chunks) i x) (sym (zero-add r))
  set_in (suc k) r (chunk ∷ chunks) old new x within is fits same =
      ap (λ (xs : List T). chunk.items ++ xs) (set_in k r chunks old new x (omega arith) is fits same) ∙ sym (set_on chunk.items (joined chunks) chunk.len (before k (sizes chunks)) r x (as_long chunk))

  -- a chunk with the same elements
  pub same_joined : (k : ℕ) (chunks : List (VecDeque T Z)) (old new : VecDeque T Z) → k < length chunks → old ≡ get_or chunks k old → new.items ≡ old.items → joined (slice_set chunks k new) ≡ joined chunks
  same_joined k [] old new within is same = absurd (omega arith)
  same_joined zero (chunk ∷ chunks) old new within is same = ap (λ (xs : List T). xs ++ joined chunks) (same ∙ ap (λ (q : VecDeque T Z). q.items) is)
  same_joined (suc k) (chunk ∷ chunks) old new within is same = ap (λ (xs : List T). chunk.items ++ xs) (same_joined k chunks old new (omega arith) is same)

  -- the last chunk, which is empty
  pub empty_last : (k : ℕ) (chunks : List (VecDeque T Z)) (last : VecDeque T Z) → k + 1 ≡ length chunks → last ≡ get_or chunks k last → last.len ≡ 0 → joined (take k chunks) ≡ joined chunks
  empty_last k [] last all is none = absurd (omega (arith, all))
  empty_last zero (chunk ∷ []) last all is none =
      let long : length chunk.items ≡ 0 = as_long chunk ∙ sym (ap (λ (q : VecDeque T Z). q.len) is) ∙ none in
      sym (append-nil chunk.items ∙ no_elements chunk.items long)
  empty_last zero (chunk ∷ next ∷ chunks) last all is none = absurd (omega (arith, all))
  empty_last (suc k) (chunk ∷ chunks) last all is none = ap (λ (xs : List T). chunk.items ++ xs) (empty_last k chunks last (omega (arith, all)) is none)

  -- an element that is read
  pub get_is : (chunk : VecDeque T Z) (r : ℕ) (x : T) → r < chunk.len → x ≡ get_or chunk.items r x → slice_get chunk.items r ≡ Some x
  get_is chunk r x within is = read_is chunk.items r x (let long : length chunk.items ≡ chunk.len = as_long chunk in omega (arith, long, within)) is
