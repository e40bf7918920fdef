-- The frame rate in a YUV4MPEG2 line.
use Rattle.std.proofs.Common.{◌≡◌, ℕ, List, ◌⊎◌, ◌++◌, inl, inr, codes, [], ◌∷◌, refl, ◌∙◌, append_assoc, arith}
use Rattle.std.proofs.lemmas.Grind.{common_steps}
use Rattle.std.specs.Fmt.{digits, decimal}
use Rattle.stream_files.specs.Y4m.{rate_text}

thirty : codes "30:1" ≡ decimal 30 ++ codes ":" ++ decimal 1
unfolding digits
thirty = refl

-- a rate that is not a fraction is written as 30
pub rate_text-zero : (rate scale : ℕ) → (rate ≡ 0) ⊎ ((rate ≡ 0 → ⊥) × (scale ≡ 0)) → rate_text rate scale ≡ decimal 30 ++ codes ":" ++ decimal 1
rate_text-zero rate scale (inl none) = rw none thirty
rate_text-zero rate scale (inr none) =
    let e : scale ≡ 0 = none.1 in
    let reported : rate_text rate 0 ≡ codes "30:1" = grind (arith, common_steps) in
    rw e (reported ∙ thirty)

joined : (a w b h c r d s e f : List ℕ) → a ++ (w ++ (b ++ (h ++ (c ++ (r ++ (d ++ (s ++ (e ++ f)))))))) ≡ a ++ w ++ b ++ h ++ c ++ (r ++ d ++ s) ++ e ++ f
joined a w b h c r d s e f = simp append_assoc

-- the parts of a line in the order in which the format writes them
pub line_parts : (width height rate scale : List ℕ)
    → codes "YUV4MPEG2 W" ++ (width ++ (codes " H" ++ (height ++ (codes " F" ++ (rate ++ (codes ":" ++ (scale ++ (codes " Ip C420jpeg" ++ 10 ∷ []))))))))
    ≡ codes "YUV4MPEG2 W" ++ width ++ codes " H" ++ height ++ codes " F" ++ (rate ++ codes ":" ++ scale) ++ codes " Ip C420jpeg" ++ 10 ∷ []
line_parts width height rate scale =
    joined (codes "YUV4MPEG2 W") width (codes " H") height (codes " F") rate (codes ":") scale (codes " Ip C420jpeg") (10 ∷ [])
