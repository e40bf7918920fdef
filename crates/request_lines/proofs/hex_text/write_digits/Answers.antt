use Rattle.std.proofs.Common.{◌≡◌, ◌+◌, List, [], ℕ, ◌∷◌, ◌++◌, drop, get_or, refl, ap, sym, subst, ◌∙◌, append_assoc, append-nil}
use Rattle.std.proofs.KnownBytes.{Appends-trans}
use Rattle.std.proofs.lemmas.List.{drop_all, drop_more}
use Rattle.std.specs.Io.KnownBytes.{Appends}
use Rattle.hex.specs.Hex.{encode_lower, encode_with}
use Rattle.request_lines.proofs.HexWords.{digits_more}
use Rattle.request_lines.proofs.hex_text.write_digits.Goals as goal

no_digits : encode_lower [] ≡ []
unfolding encode_with
no_digits = refl

pub loop-byte-preserved : goal.loop-byte-preserved
loop-byte-preserved g c =
    let done = c.loop-byte.invariant.done in
    let i = c.loop-byte.byte-index in
    let x : ℕ = get_or c.args.bytes.now i 0 in
    let rest : List ℕ = drop (i + 1) c.args.bytes.now in
    let at : drop i c.args.bytes.now ≡ x ∷ rest = drop_more c.args.bytes.now i 0 c.loop-byte-test.true in
    let text : List ℕ = encode_lower (x ∷ []) in
    record {
      done = done ++ text;
      whole = append_assoc done text (encode_lower rest) ∙ ap (λ (zs : List ℕ). done ++ zs) (sym (digits_more x rest)) ∙ ap (λ (ys : List ℕ). done ++ encode_lower ys) (sym at) ∙ c.loop-byte.invariant.whole;
      said = subst (λ (zs : List ℕ). Appends (g.W.Write.contents c.args.w.now) (g.W.Write.contents c.write_all.new.self) (done ++ zs)) c.hex_digits-digits.ensures (Appends-trans _ _ _ _ _ c.loop-byte.invariant.said c.in_ok-write_all.ensures.bytes);
    }

pub returns : goal.returns
returns g c =
    let done = c.loop-byte.invariant.done in
    let none : encode_lower (drop c.loop-byte.byte-index c.args.bytes.now) ≡ [] = ap encode_lower (drop_all c.loop-byte.byte-index c.args.bytes.now c.loop-byte-test.false) ∙ no_digits in
    let whole : done ≡ encode_lower c.args.bytes.now = sym (append-nil done) ∙ ap (λ (zs : List ℕ). done ++ zs) (sym none) ∙ c.loop-byte.invariant.whole in
    subst (λ (text : List ℕ). Appends (g.W.Write.contents c.args.w.now) (g.W.Write.contents c.loop-byte.w) text) whole c.loop-byte.invariant.said
