-- The entries of Tracks, by the child at the front.
use Rattle.std.proofs.Common.{◌≡◌, ℕ, ◌+◌, ◌-◌, cond, List, [], ◌∷◌, drop, take, map, sym, ap, ◌∙◌, arith, eqb}
use Rattle.std.specs.List.{filter}
use Rattle.std.proofs.lemmas.Bool.{eq-eqb, ne_eqb}
use Rattle.std.proofs.lemmas.List.{drop-drop}
use Rattle.webm_files.specs.declared.ids.TheConstants.{ENTRY}
use Rattle.webm_files.specs.Elements.{head_size, content_size, id_of}
use Rattle.webm_files.specs.Children.{HasChild, Child, first_child, after_child, children}
use Rattle.webm_files.specs.Tracks.{entries_in, entries_of}
use Rattle.webm_files.proofs.ChildLemmas.{children-some, children-none, child_is, no_child}

-- what the child at the front adds to the entries
entry : (child : Child) (more : List Child) → child.id ≡ ENTRY → entries_in (child ∷ more) ≡ child.content ∷ entries_in more
entry child more is = ap (λ b. map (λ (c : Child). c.content) (cond b (child ∷ filter (λ c. eqb c.id ENTRY) more) (filter (λ c. eqb c.id ENTRY) more))) (eq-eqb child.id ENTRY is)

other : (child : Child) (more : List Child) → (child.id ≡ ENTRY → ⊥) → entries_in (child ∷ more) ≡ entries_in more
other child more not = ap (λ b. map (λ (c : Child). c.content) (cond b (child ∷ filter (λ c. eqb c.id ENTRY) more) (filter (λ c. eqb c.id ENTRY) more))) (ne_eqb child.id ENTRY not)

pub entries-entry : (file text : List ℕ) (at name start end : ℕ) → text ≡ drop at file → HasChild text → name ≡ id_of text → name ≡ ENTRY → start ≡ head_size text → end ≡ head_size text + content_size text
    → entries_of (drop at file) ≡ take ((at + end) - (at + start)) (drop (at + start) file) ∷ entries_of (drop (at + end) file)
entries-entry file text at name start end rest has named is is_start is_end =
    let size : (at + end) - (at + start) ≡ content_size text = omega (arith, is_start, is_end) in
    let content : take (content_size text) (drop (head_size text) text) ≡ take ((at + end) - (at + start)) (drop (at + start) file) =
    ap (λ n. take n (drop (head_size text) text)) (sym size) ∙ ap (λ n. take ((at + end) - (at + start)) (drop n text)) (sym is_start) ∙ ap (λ t. take ((at + end) - (at + start)) (drop start t)) rest ∙ ap (take ((at + end) - (at + start))) (drop-drop start at file) in
    let more : after_child text ≡ drop (at + end) file = ap (λ n. drop n text) (sym is_end) ∙ ap (drop end) rest ∙ drop-drop end at file in
    ap entries_of (sym rest) ∙ ap entries_in (children-some text (child_is text has)) ∙ entry (first_child text) (children (after_child text)) (sym named ∙ is)
    ∙ ap (λ c. c ∷ entries_of (after_child text)) content ∙ ap (λ t. take ((at + end) - (at + start)) (drop (at + start) file) ∷ entries_of t) more

pub entries-other : (file text : List ℕ) (at name end : ℕ) → text ≡ drop at file → HasChild text → name ≡ id_of text → (name ≡ ENTRY → ⊥) → end ≡ head_size text + content_size text
    → entries_of (drop at file) ≡ entries_of (drop (at + end) file)
entries-other file text at name end rest has named not is_end =
    let more : after_child text ≡ drop (at + end) file = ap (λ n. drop n text) (sym is_end) ∙ ap (drop end) rest ∙ drop-drop end at file in
    ap entries_of (sym rest) ∙ ap entries_in (children-some text (child_is text has)) ∙ other (first_child text) (children (after_child text)) (λ e. not (named ∙ e)) ∙ ap entries_of more

pub entries-none : (text : List ℕ) → ¬ HasChild text → entries_of text ≡ []
entries-none text none = ap entries_in (children-none text (no_child text none))
