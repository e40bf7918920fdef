-- Rows of odds and the probabilities that they were made of
use Rattle.std.proofs.Common.{◌≡◌, ℕ, zero, suc, ◌+◌, ◌-◌, ◌*◌, ◌/◌, ◌%◌, ◌<◌, ◌≤◌, List, [], ◌∷◌, length, map, take, drop, slice_index_or, refl, sym, ap, ◌∙◌, arith}
use Rattle.std.specs.Prelude.{slice_index, slice_range}
use Rattle.std.specs.List.{All}
use Rattle.std.proofs.lemmas.List.{ext_get_or, get_or-map, get_or-take, get_or-drop, length-drop, length-map, length-take-le}
use Rattle.bool_coder.specs.Chains.{AreProbabilities}
use Rattle.bool_coder.specs.Odds.{AreOdds, odds_of, prob_in}
use Rattle.bool_coder.specs.declared.odds.Odds.{Odds}
use Rattle.token_parser.specs.declared.rows.Context.{Context}
use Rattle.token_parser.specs.declared.rows.Row.{Row}
use Rattle.token_parser.specs.declared.places.TheConstants.{BANDS}
use Rattle.token_parser.specs.Rows.{AreRows, context_of, row_of}
use Rattle.token_parser.specs.Tokens.{nodes_at}
use Rattle.token_parser.proofs.BlockPlaces.{small-at}
use Rattle.vp8_tables.specs.Tables.{coefficient_index}

-- the probability of odds that were made
prob-odds : (prob : ℕ) → prob_in (odds_of prob) ≡ prob
prob-odds prob = omega arith

are-odds : (prob : ℕ) → prob < 256 → AreOdds (odds_of prob)
are-odds prob small = (omega (arith, prob-odds prob), ap odds_of (sym (prob-odds prob)))

pub probs-odds : (probs : List ℕ) → map prob_in (map odds_of probs) ≡ probs
probs-odds [] = refl
probs-odds (prob ∷ probs) = ap (λ (n : ℕ). n ∷ map prob_in (map odds_of probs)) (prob-odds prob) ∙ ap (λ (ns : List ℕ). prob ∷ ns) (probs-odds probs)

pub all-odds : (probs : List ℕ) → AreProbabilities probs → All AreOdds (map odds_of probs)
all-odds probs small = λ k d less. rw (get_or-map odds_of probs k 0 d (omega (arith, less, length-map probs odds_of))) (are-odds (slice_index_or probs k 0) (small k))

-- an element of a part of a list
in_part : (xs : List ℕ) (start count k : ℕ) → k < count → slice_index_or (take count (drop start xs)) k 0 ≡ slice_index_or xs (start + k) 0
in_part xs start count k less = get_or-take count (drop start xs) k 0 less ∙ get_or-drop start xs k 0

-- the odds of 11 probabilities
pub context-all : (probs : List ℕ) (odds : List Odds) (start : ℕ) → start + 11 ≤ length probs → length odds ≡ 11 → ((k : ℕ) → k < 11 → slice_index_or odds k (odds_of 0) ≡ odds_of (slice_index probs (start + k))) → odds ≡ map odds_of (slice_range probs start (start + 11))
context-all probs odds start fits long each =
    let count : start + 11 - start ≡ 11 = omega arith in
    let part : List ℕ = slice_range probs start (start + 11) in
    let all : length part ≡ 11 = length-take-le (start + 11 - start) (drop start probs) (omega (arith, fits, length-drop start probs)) ∙ count in
    ext_get_or (odds_of 0) odds (map odds_of part) (long ∙ sym (length-map part odds_of ∙ all))
    (λ k less. each k (omega (arith, less, long)) ∙ ap odds_of (sym (in_part probs start (start + 11 - start) k (omega (arith, less, long)))) ∙ sym (get_or-map odds_of part k 0 (odds_of 0) (omega (arith, less, long, all))))

-- the nodes of the token tree are 11
pub length-nodes : (probs : List ℕ) (kind place context : ℕ) → length probs ≡ 1056 → kind < 4 → place < 16 → context < 3 → length (nodes_at probs kind place context) ≡ 11
length-nodes probs kind place context all is_kind is_place is_context =
    let band : slice_index BANDS place < 8 = small-at 8 BANDS place (omega arith) refl in
    let start : ℕ = coefficient_index kind (slice_index BANDS place) context 0 in
    let count : start + 11 - start ≡ 11 = omega arith in
    length-take-le (start + 11 - start) (drop start probs) (omega (arith, all, band, length-drop start probs)) ∙ count

-- those of a context
pub context-is : (probs : List ℕ) (start kind place context : ℕ) (x : Context) → start ≡ coefficient_index kind (slice_index BANDS place) context 0 → x.odds ≡ map odds_of (slice_range probs start (start + 11)) → x ≡ context_of probs kind place context
unfolding context_of
context-is probs start kind place context x begins is =
    ap (λ (odds : List Odds). record { odds = odds }) (is ∙ ap (λ (s : ℕ). map odds_of (slice_range probs s (s + 11))) begins)

-- of three contexts
three : (f : ℕ → Context) (context : ℕ) (d : Context) → context < 3 → slice_index_or (map f (0 ∷ 1 ∷ 2 ∷ [])) context d ≡ f context
three f zero d less = refl
three f (suc zero) d less = refl
three f (suc (suc zero)) d less = refl
three f (suc (suc (suc n))) d less = absurd (omega arith)

abbrev none : Row
none = record { contexts = [] }

in_row : (probs : List ℕ) (rows : List Row) (kind place context : ℕ) (d : Context) → AreRows 64 probs rows → kind < 4 → place < 16 → context < 3 → slice_index_or (slice_index_or rows (kind * 16 + place) none).contexts context d ≡ context_of probs kind place context
unfolding row_of
in_row probs rows kind place context d are is_kind is_place is_context =
    let is_in : (kind * 16 + place) / 16 ≡ kind = omega arith in
    let at : (kind * 16 + place) % 16 ≡ place = omega arith in
    ap (λ (row : Row). slice_index_or row.contexts context d) (are (kind * 16 + place) (omega arith))
    ∙ three (context_of probs ((kind * 16 + place) / 16) ((kind * 16 + place) % 16)) context d is_context
    ∙ ap (λ (n : ℕ). context_of probs n ((kind * 16 + place) % 16) context) is_in ∙ ap (λ (n : ℕ). context_of probs kind n context) at

pub odds-in_row : (probs : List ℕ) (rows : List Row) (kind place context : ℕ) (d : Context) → AreRows 64 probs rows → kind < 4 → place < 16 → context < 3 → (slice_index_or (slice_index_or rows (kind * 16 + place) none).contexts context d).odds ≡ map odds_of (nodes_at probs kind place context)
unfolding context_of
odds-in_row probs rows kind place context d are is_kind is_place is_context = ap (λ (x : Context). x.odds) (in_row probs rows kind place context d are is_kind is_place is_context)
