-- The packets and marks of sources, when those of one source change.
use Rattle.std.proofs.Common.{◌≡◌, ℕ, zero, suc, ◌<◌, Bool, true, false, cond, List, [], ◌∷◌, ◌++◌, Result, Ok, Err, length, map, slice_index_or, slice_set, take, refl, sym, ap, subst, ◌∙◌, arith}
use Rattle.std.proofs.lemmas.List.{get_or-set_other, get_or-set_same, map-set, set-get_or}
use Rattle.std.proofs.Math.ListN.{get_or-map}
use Rattle.std.proofs.Math.Seq.{map-set_same}
use Rattle.vp8_tables.specs.declared.tables.Tables.{Tables}
use Rattle.stream_files.specs.declared.streams.Stream.{Stream}
use Rattle.packet_edits.specs.Edits.{Listing, copied}
use Rattle.packet_edits.specs.Marks.{StoreValue, marks_inserted}
use Rattle.packet_edits.specs.Shown.{shown_indexes, stream_of}
use Rattle.request_lines.specs.declared.edit.Edit.{Edit}
use Rattle.frame_session.specs.declared.refusal.Refusal.{Refusal}
use Rattle.frame_session.specs.Edits.{after_edit, edited, list_at}
use Rattle.frame_session.specs.Sessions.{SessionState, list_of_file, now_after_edit}
use Rattle.frame_session.specs.Cached.{lists_of, marks_after, marks_edited, shown_counts_of, store_at, store_of_file, store_copied, store_edited, stores_after}

-- the packets of one source after those of one were replaced
pub store_here : (stores : List StoreValue) (source : ℕ) (store : StoreValue) → source < length stores → store_at (slice_set stores source store) source ≡ store
store_here stores source store within = get_or-set_same stores source store _ within

pub store_there : (stores : List StoreValue) (source other : ℕ) (store : StoreValue) → (other ≡ source → ⊥) → store_at (slice_set stores source store) other ≡ store_at stores other
store_there stores source other store differs = get_or-set_other stores source other store _ differs

pub list_of_store : (stores : List StoreValue) (source : ℕ) → list_at (lists_of stores) source ≡ (store_at stores source).list
list_of_store stores source = get_or-map (λ (store : StoreValue). store.list) stores source _

pub lists_of_set : (stores : List StoreValue) (source : ℕ) (store : StoreValue) → lists_of (slice_set stores source store) ≡ slice_set (lists_of stores) source store.list
lists_of_set stores source store = map-set (λ (s : StoreValue). s.list) stores source store

-- the lists are unchanged if the list of the source that was replaced is
pub lists_stay : (stores : List StoreValue) (source : ℕ) (store : StoreValue) → store.list ≡ (store_at stores source).list → lists_of (slice_set stores source store) ≡ lists_of stores
lists_stay stores source store same = map-set_same (λ (s : StoreValue). s.list) stores source store _ same

-- a source that exists, however the list is read past its end
any_default : (stores : List StoreValue) (source : ℕ) (d e : StoreValue) → source < length stores → slice_index_or stores source d ≡ slice_index_or stores source e
any_default [] source d e within = absurd (omega (arith, within))
any_default (s ∷ stores) zero d e within = refl
any_default (s ∷ stores) (suc source) d e within = any_default stores source d e (omega (arith, within))

pub found : (stores : List StoreValue) (source : ℕ) (d : StoreValue) → source < length stores → slice_index_or stores source d ≡ store_at stores source
found stores source d within = any_default stores source d _ within

same_store : (made : StoreValue) (list : Listing) (marks : List Bool) → made.list ≡ list → made.marks ≡ marks → made ≡ record { list = list; marks = marks }
same_store made list marks a b =
    subst (λ (m : List Bool). made ≡ record { list = list; marks = m }) b (subst (λ (l : Listing). made ≡ record { list = l; marks = made.marks }) a refl)

-- the packets of one source replaced by its own
set_own : (stores : List StoreValue) (source : ℕ) → slice_set stores source (store_at stores source) ≡ stores
set_own stores source = set-get_or stores source _

-- the packets and marks of the current source after an edit
pub edited_here : (tables : Tables) (current : ℕ) (edit : Edit (List ℕ)) (stores : List StoreValue) (d made : StoreValue) (answer : Result ℕ Refusal) → current < length stores
    → made.list ≡ after_edit tables (lists_of stores) edit (slice_index_or stores current d).list answer → made.marks ≡ marks_after edit (slice_index_or stores current d).marks answer → slice_set stores current made ≡ stores_after tables current edit stores answer
edited_here tables current edit stores d made (Ok count) within list marks =
    let own = slice_index_or stores current d in
    ap (slice_set stores current) (same_store made (edited tables (lists_of stores) edit own.list) (marks_edited edit own.marks) list marks)
    ∙ ap (λ (s : StoreValue). slice_set stores current (store_edited tables (lists_of stores) edit s)) (found stores current d within)
edited_here tables current edit stores d made (Err refusal) within list marks =
    let own = slice_index_or stores current d in
    ap (slice_set stores current) (same_store made own.list own.marks list marks ∙ found stores current d within) ∙ set_own stores current

-- the lists after an edit
pub lists_after : (tables : Tables) (current : ℕ) (edit : Edit (List ℕ)) (stores : List StoreValue) (count : ℕ) → lists_of (stores_after tables current edit stores (Ok count)) ≡ slice_set (lists_of stores) current (edited tables (lists_of stores) edit (list_at (lists_of stores) current))
lists_after tables current edit stores count =
    lists_of_set stores current _ ∙ ap (λ (l : Listing). slice_set (lists_of stores) current (edited tables (lists_of stores) edit l)) (sym (list_of_store stores current))

-- the state after an edit
pub edit_leaves : (old : SessionState) (stores made : List StoreValue) (edit : Edit (List ℕ)) (answer : Result ℕ Refusal) → made ≡ stores_after old.tables old.current edit stores answer → record old { lists = lists_of made } ≡ now_after_edit edit (record old { lists = lists_of stores }) answer
edit_leaves old stores made edit (Ok count) is = ap (λ (l : List Listing). record old { lists = l }) (ap lists_of is ∙ lists_after old.tables old.current edit stores count)
edit_leaves old stores made edit (Err refusal) is = ap (λ (l : List StoreValue). record old { lists = lists_of l }) is

-- a part that is the whole
pub take_front : (xs ys : List StoreValue) (n : ℕ) → n ≡ length xs → take n (xs ++ ys) ≡ xs
take_front xs ys n is = ap (λ (k : ℕ). take k (xs ++ ys)) is ∙ front_of xs ys
  where
    front_of : (xs ys : List StoreValue) → take (length xs) (xs ++ ys) ≡ xs
    front_of [] ys = refl
    front_of (x ∷ xs) ys = ap (λ (l : List StoreValue). x ∷ l) (front_of xs ys)

-- the packets and marks of the current source after a copy
pub copied_here : (done : Bool) (stores : List StoreValue) (current number at from : ℕ) (source own made : StoreValue) → source ≡ store_at stores number → own ≡ store_at stores current → made.list ≡ cond done (copied at source.list from own.list) own.list → made.marks ≡ cond done (marks_inserted at own.marks) own.marks
    → slice_set stores current made ≡ cond done (slice_set stores current (store_copied at (store_at stores number).list from (store_at stores current))) stores
copied_here true stores current number at from source own made from_here is list marks =
    ap (slice_set stores current) (same_store made (copied at source.list from own.list) (marks_inserted at own.marks) list marks)
    ∙ ap (λ (s : StoreValue). slice_set stores current (store_copied at source.list from s)) is
    ∙ ap (λ (s : StoreValue). slice_set stores current (store_copied at s.list from (store_at stores current))) from_here
copied_here false stores current number at from source own made from_here is list marks =
    ap (slice_set stores current) (same_store made own.list own.marks list marks ∙ is) ∙ set_own stores current

-- two parts of the stores
pub set_back : (front back : List StoreValue) (store : StoreValue) → front ++ slice_set back 0 store ≡ slice_set (front ++ back) (length front) store
set_back [] back store = refl
set_back (s ∷ front) back store = ap (λ (l : List StoreValue). s ∷ l) (set_back front back store)

pub set_front : (front back : List StoreValue) (k : ℕ) (store : StoreValue) → k < length front → slice_set front k store ++ back ≡ slice_set (front ++ back) k store
set_front [] back k store within = absurd (omega (arith, within))
set_front (s ∷ front) back zero store within = refl
set_front (s ∷ front) back (suc k) store within = ap (λ (l : List StoreValue). s ∷ l) (set_front front back k store (omega (arith, within)))

get_back : (front back : List StoreValue) (d : StoreValue) → slice_index_or back 0 d ≡ slice_index_or (front ++ back) (length front) d
get_back [] back d = refl
get_back (s ∷ front) back d = get_back front back d

get_front : (front back : List StoreValue) (k : ℕ) (d : StoreValue) → k < length front → slice_index_or front k d ≡ slice_index_or (front ++ back) k d
get_front [] back k d within = absurd (omega (arith, within))
get_front (s ∷ front) back zero d within = refl
get_front (s ∷ front) back (suc k) d within = get_front front back k d (omega (arith, within))

pub found_back : (stores front back : List StoreValue) (source : ℕ) (d : StoreValue) → stores ≡ front ++ back → length front ≡ source → source < length stores → slice_index_or back 0 d ≡ store_at stores source
found_back stores front back source d whole long within =
    get_back front back d ∙ ap (λ (k : ℕ). slice_index_or (front ++ back) k d) long ∙ ap (λ (l : List StoreValue). slice_index_or l source d) (sym whole) ∙ found stores source d within

pub found_front : (stores front back : List StoreValue) (source : ℕ) (d : StoreValue) → stores ≡ front ++ back → source < length front → source < length stores → slice_index_or front source d ≡ store_at stores source
found_front stores front back source d whole inside within =
    get_front front back source d inside ∙ ap (λ (l : List StoreValue). slice_index_or l source d) (sym whole) ∙ found stores source d within

-- the number of shown packets of each source, from the stores or from their lists
pub counts_same : (stores : List StoreValue) → shown_counts_of stores ≡ map (λ list. length (shown_indexes (stream_of list))) (lists_of stores)
counts_same [] = refl
counts_same (s ∷ stores) = ap (λ (l : List ℕ). length (shown_indexes (stream_of s.list)) ∷ l) (counts_same stores)

-- the lists of new stores
pub begun_lists : (files : List Stream) → lists_of (map store_of_file files) ≡ map list_of_file files
begun_lists [] = refl
begun_lists (file ∷ files) = ap (λ (l : List Listing). list_of_file file ∷ l) (begun_lists files)
