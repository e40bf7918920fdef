use Rattle.std.proofs.Common.{◌≡◌, ◌+◌, ◌++◌, ℕ, List, [], ◌∷◌, length, subst, ap, sym, append_assoc, ◌∙◌, length-append}
use Rattle.std.proofs.KnownBytes.{Appends-trans}
use Rattle.std.proofs.lemmas.Result.{on_ok_weaker}
use Rattle.std.specs.Io.KnownBytes.{Appends}
use Rattle.byteorder.specs.Endian.{little_bytes}
use Rattle.stream_files.proofs.ivf_writing.write_padded_record.Goals as goal

-- the fields, the bytes and the last byte
parts_are : (size stamp bytes : List ℕ) → size ++ stamp ++ bytes ++ 0 ∷ [] ≡ size ++ stamp ++ (bytes ++ 0 ∷ [])
parts_are size stamp bytes = append_assoc (size ++ stamp) bytes (0 ∷ [])

pub returns : goal.returns
returns g c =
    let bytes : List ℕ = c.args.bytes.now in
    let stamp : List ℕ = little_bytes 8 c.args.stamp in
    let grown = Appends (g.W.Write.contents c.args.w.now) (g.W.Write.contents c.write_u8.new.self) in
    let size : length bytes + 1 ≡ length (bytes ++ 0 ∷ []) = sym (length-append bytes (0 ∷ [])) in
    let same : little_bytes 4 (length bytes + 1) ++ stamp ++ bytes ++ 0 ∷ [] ≡ little_bytes 4 (length (bytes ++ 0 ∷ [])) ++ stamp ++ (bytes ++ 0 ∷ []) =
    parts_are (little_bytes 4 (length bytes + 1)) stamp bytes ∙ ap (λ (n : ℕ). little_bytes 4 n ++ stamp ++ (bytes ++ 0 ∷ [])) size in
    on_ok_weaker c.write_u8.result
    (λ p. subst grown same (Appends-trans _ _ _ _ _ (Appends-trans _ _ _ _ _ c.in_ok-write_front.ensures c.in_ok-write_all.ensures.bytes) p))
    c.write_u8.ensures.bytes
