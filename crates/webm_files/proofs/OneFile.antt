-- A file has one stream, and at most one error.
use Rattle.std.proofs.Common.{◌≡◌, ℕ, ◌/◌, ◌<◌, Bool, true, false, List, drop, refl, sym, ◌∙◌, ap, subst, arith, ◌↔◌, IsTrue, Option, Some, None, cond, eqb, inl, inr}
use Rattle.std.proofs.lemmas.Bool.{cases_lt}
use Rattle.std.proofs.lemmas.Nat.Gcd.{same_from_IsGcd}
use Rattle.stream_files.specs.declared.streams.Head.{Head}
use Rattle.stream_files.specs.declared.packets.Packet.{Packet}
use Rattle.webm_files.specs.declared.files.Webm.{Webm}
use Rattle.webm_files.specs.declared.files.WebmFault.{WebmFault}
use Rattle.webm_files.specs.declared.files.WebmFault.TheVariants.{Header, DocType, NoTracks, NoVideo, Encoded, Scale, TooMany, NoMemory}
use Rattle.webm_files.specs.Walks.{Walk, IsCut}
use Rattle.webm_files.specs.Lengths.{wrong_lengths}
use Rattle.webm_files.specs.Media.{Kept}
use Rattle.webm_files.specs.Tracks.{IsHead, IsLowest, video_in}
use Rattle.webm_files.specs.Files.{HasContents, HasDocType, HasHeader, HasScale, HasStream, HasTracks, HasVideo, IsFew, IsPlain, IsWebm, WebmRefuses, scale_of, tracks_of}
use Rattle.webm_files.proofs.OneAnswer.{walks_are_one}

-- a value that is there is one
some_one : (one other : List ℕ) (found : Option (List ℕ)) → found ≡ Some one → found ≡ Some other → one ≡ other
some_one one other found a b = let same : Some one ≡ Some other = sym a ∙ b in (cc)

tracks_one : (file : List ℕ) (walk walk' : Walk) (tracks tracks' : List ℕ) → HasTracks file walk tracks → HasTracks file walk' tracks' → (walk ≡ walk') × (tracks ≡ tracks')
tracks_one file walk walk' tracks tracks' a b =
    let same : walk ≡ walk' = walks_are_one file walk walk' a.is b.is in
    (same, some_one tracks tracks' (tracks_of file walk') (ap (tracks_of file) (sym same) ∙ a.content) b.content)

video_one : (file : List ℕ) (walk walk' : Walk) (tracks tracks' entry entry' : List ℕ) → HasVideo file walk tracks entry → HasVideo file walk' tracks' entry'
    → (walk ≡ walk') × (tracks ≡ tracks') × (entry ≡ entry')
video_one file walk walk' tracks tracks' entry entry' a b =
    let same = tracks_one file walk walk' tracks tracks' a.in_tracks b.in_tracks in
    (same.0, same.1, some_one entry entry' (video_in tracks') (ap video_in (sym same.1) ∙ a.video) b.video)

lowest_one : (rate scale rate' scale' a b : ℕ) → IsLowest rate scale a b → IsLowest rate' scale' a b → (rate ≡ rate') × (scale ≡ scale')
lowest_one rate scale rate' scale' a b one other =
    let same : one.common ≡ other.common = same_from_IsGcd a b one.common other.common one.divisor other.divisor in
    (one.first ∙ ap (λ n. a / n) same ∙ sym other.first, one.second ∙ ap (λ n. b / n) same ∙ sym other.second)

head_fields : (w w' h h' r r' s s' : ℕ) → w ≡ w' → h ≡ h' → r ≡ r' → s ≡ s'
    → (let head : Head = record { width = w; height = h; rate = r; scale = s } in let other : Head = record { width = w'; height = h'; rate = r'; scale = s' } in head ≡ other)
head_fields w w' h h' r r' s s' a b c d = cc

head_one : (entry : List ℕ) (scale : ℕ) (head head' : Head) → IsHead entry scale head → IsHead entry scale head' → head ≡ head'
head_one entry scale head head' a b =
    let rate = lowest_one head.rate head.scale head'.rate head'.scale 1000000000 scale a.rate b.rate in
    head_fields head.width head'.width head.height head'.height head.rate head'.rate head.scale head'.scale (a.width ∙ sym b.width) (a.height ∙ sym b.height) rate.0 rate.1

-- a test that is true exactly if a fact holds is one
test_one : (P : Type 0) (b b' : Bool) → IsTrue b ↔ P → IsTrue b' ↔ P → b ≡ b'
test_one P true true a b = refl
test_one P false false a b = refl
test_one P true false a b = let e : false ≡ true = b.1 (a.0 refl) in (cc)
test_one P false true a b = let e : false ≡ true = a.1 (b.0 refl) in (cc)

file_fields : (h h' : Head) (p p' : List Packet) (s s' : ℕ) (m m' : Kept) → h ≡ h' → p ≡ p' → s ≡ s' → m ≡ m'
    → (let file : Webm = record { head = h; packets = p; spare = s; media = m } in let other : Webm = record { head = h'; packets = p'; spare = s'; media = m' } in file ≡ other)
file_fields h h' p p' s s' m m' a b c d = cc

-- what is kept, by its fields
kept_fields : (one other : Kept) → one.video ≡ other.video → one.default_duration ≡ other.default_duration → one.numbers ≡ other.numbers → one.blocks ≡ other.blocks
    → one.unlisted ≡ other.unlisted → one.gaps ≡ other.gaps → one.parts ≡ other.parts → one.timeless ≡ other.timeless → one.lengths ≡ other.lengths → one.is_cut ≡ other.is_cut → one ≡ other
kept_fields one other a b c d e f g i j h =
    ap (λ v. record one { video = v }) a
    ∙ ap (λ v. record one { video = other.video; default_duration = v }) b
    ∙ ap (λ v. record one { video = other.video; default_duration = other.default_duration; numbers = v }) c
    ∙ ap (λ v. record other { blocks = v; unlisted = one.unlisted; gaps = one.gaps; parts = one.parts; timeless = one.timeless; lengths = one.lengths; is_cut = one.is_cut }) d
    ∙ ap (λ v. record other { unlisted = v; gaps = one.gaps; parts = one.parts; timeless = one.timeless; lengths = one.lengths; is_cut = one.is_cut }) e
    ∙ ap (λ v. record other { gaps = v; parts = one.parts; timeless = one.timeless; lengths = one.lengths; is_cut = one.is_cut }) f
    ∙ ap (λ v. record other { parts = v; timeless = one.timeless; lengths = one.lengths; is_cut = one.is_cut }) g
    ∙ ap (λ v. record other { timeless = v; lengths = one.lengths; is_cut = one.is_cut }) i
    ∙ ap (λ v. record other { lengths = v; is_cut = one.is_cut }) j
    ∙ ap (λ v. record other { is_cut = v }) h

kept_one : (file : List ℕ) (walk : Walk) (tracks entry : List ℕ) (one other : Webm) → HasContents file walk tracks entry one → HasContents file walk tracks entry other → one.media ≡ other.media
kept_one file walk tracks entry one other a b =
    let video : one.media.video ≡ other.media.video = a.video ∙ sym b.video in
    let duration : one.media.default_duration ≡ other.media.default_duration = a.duration ∙ sym b.duration in
    let numbers : one.media.numbers ≡ other.media.numbers = a.numbers ∙ sym b.numbers in
    let blocks : one.media.blocks ≡ other.media.blocks = a.blocks ∙ sym b.blocks in
    let unlisted : one.media.unlisted ≡ other.media.unlisted = a.unlisted ∙ sym b.unlisted in
    let gaps : one.media.gaps ≡ other.media.gaps = a.gaps ∙ sym b.gaps in
    let parts : one.media.parts ≡ other.media.parts = a.parts ∙ sym b.parts in
    let timeless : one.media.timeless ≡ other.media.timeless = a.timeless ∙ sym b.timeless in
    let cut : one.media.is_cut ≡ other.media.is_cut = test_one (IsCut (drop walk.end file)) one.media.is_cut other.media.is_cut a.cut b.cut in
    let lengths : one.media.lengths ≡ other.media.lengths = a.lengths ∙ ap (λ (is : Bool). wrong_lengths file is walk.elements) cut ∙ sym b.lengths in
    kept_fields one.media other.media video duration numbers blocks unlisted gaps parts timeless lengths cut

pub one_file : (file : List ℕ) (one other : Webm) → IsWebm file one → IsWebm file other → one ≡ other
one_file file one other a b =
    let same = video_one file a.walk b.walk a.tracks b.tracks a.entry b.entry a.stream.video b.stream.video in
    let contents : HasContents file b.walk b.tracks b.entry one =
    subst (λ e. HasContents file b.walk b.tracks e one) same.2 (subst (λ t. HasContents file b.walk t a.entry one) same.1 (subst (λ w. HasContents file w a.tracks a.entry one) same.0 a.contents)) in
    let head : IsHead b.entry (scale_of file b.walk) one.head = subst (λ e. IsHead e (scale_of file b.walk) one.head) same.2 (subst (λ w. IsHead a.entry (scale_of file w) one.head) same.0 a.head) in
    file_fields one.head other.head one.packets other.packets one.spare other.spare one.media other.media
    (head_one b.entry (scale_of file b.walk) one.head other.head head b.head)
    (contents.packets ∙ sym b.contents.packets) (contents.spare ∙ sym b.contents.spare)
    (kept_one file b.walk b.tracks b.entry one other contents b.contents)

-- the place of an error in the order of the checks
abbrev stage : WebmFault → ℕ
stage Header = 0
stage DocType = 1
stage NoTracks = 2
stage NoVideo = 3
stage Encoded = 4
stage Scale = 5
stage TooMany = 6
stage NoMemory = 7

-- what holds if an error is after another one in this order
typed : (file : List ℕ) (fault : WebmFault) → 1 < stage fault → WebmRefuses file fault → HasDocType file
typed file Header late said = absurd (omega (arith, late))
typed file DocType late said = absurd (omega (arith, late))
typed file NoTracks late said = said.0
typed file NoVideo late said = said.2.doc_type
typed file Encoded late said = said.3.in_tracks.doc_type
typed file Scale late said = said.3.in_tracks.doc_type
typed file TooMany late said = said.3.video.in_tracks.doc_type
typed file NoMemory late said = said.1.stream.video.in_tracks.doc_type

tracked : (file : List ℕ) (fault : WebmFault) → 2 < stage fault → WebmRefuses file fault → (walk : Walk) × (tracks : List ℕ) × HasTracks file walk tracks
tracked file Header late said = absurd (omega (arith, late))
tracked file DocType late said = absurd (omega (arith, late))
tracked file NoTracks late said = absurd (omega (arith, late))
tracked file NoVideo late said = (said.0, said.1, said.2)
tracked file Encoded late said = (said.0, said.1, said.3.in_tracks)
tracked file Scale late said = (said.0, said.1, said.3.in_tracks)
tracked file TooMany late said = (said.0, said.1, said.3.video.in_tracks)
tracked file NoMemory late said = (said.1.walk, said.1.tracks, said.1.stream.video.in_tracks)

shown : (file : List ℕ) (fault : WebmFault) → 3 < stage fault → WebmRefuses file fault → (walk : Walk) × (tracks : List ℕ) × (entry : List ℕ) × HasVideo file walk tracks entry
shown file Header late said = absurd (omega (arith, late))
shown file DocType late said = absurd (omega (arith, late))
shown file NoTracks late said = absurd (omega (arith, late))
shown file NoVideo late said = absurd (omega (arith, late))
shown file Encoded late said = (said.0, said.1, said.2, said.3)
shown file Scale late said = (said.0, said.1, said.2, said.3)
shown file TooMany late said = (said.0, said.1, said.2, said.3.video)
shown file NoMemory late said = (said.1.walk, said.1.tracks, said.1.entry, said.1.stream.video)

planned : (file : List ℕ) (fault : WebmFault) → 4 < stage fault → WebmRefuses file fault → (walk : Walk) × (tracks : List ℕ) × (entry : List ℕ) × HasVideo file walk tracks entry × IsPlain entry
planned file Header late said = absurd (omega (arith, late))
planned file DocType late said = absurd (omega (arith, late))
planned file NoTracks late said = absurd (omega (arith, late))
planned file NoVideo late said = absurd (omega (arith, late))
planned file Encoded late said = absurd (omega (arith, late))
planned file Scale late said = (said.0, said.1, said.2, said.3, said.4)
planned file TooMany late said = (said.0, said.1, said.2, said.3.video, said.3.plain)
planned file NoMemory late said = (said.1.walk, said.1.tracks, said.1.entry, said.1.stream.video, said.1.stream.plain)

streamed : (file : List ℕ) (fault : WebmFault) → 5 < stage fault → WebmRefuses file fault → (walk : Walk) × (tracks : List ℕ) × (entry : List ℕ) × HasStream file walk tracks entry
streamed file Header late said = absurd (omega (arith, late))
streamed file DocType late said = absurd (omega (arith, late))
streamed file NoTracks late said = absurd (omega (arith, late))
streamed file NoVideo late said = absurd (omega (arith, late))
streamed file Encoded late said = absurd (omega (arith, late))
streamed file Scale late said = absurd (omega (arith, late))
streamed file TooMany late said = (said.0, said.1, said.2, said.3)
streamed file NoMemory late said = (said.1.walk, said.1.tracks, said.1.entry, said.1.stream)

headed : (file : List ℕ) (fault : WebmFault) → 0 < stage fault → WebmRefuses file fault → HasHeader file
headed file Header late said = absurd (omega (arith, late))
headed file DocType late said = said.0
headed file NoTracks late said = said.0.0
headed file NoVideo late said = said.2.doc_type.0
headed file Encoded late said = said.3.in_tracks.doc_type.0
headed file Scale late said = said.3.in_tracks.doc_type.0
headed file TooMany late said = said.3.video.in_tracks.doc_type.0
headed file NoMemory late said = said.1.stream.video.in_tracks.doc_type.0

none_some : (found : Option (List ℕ)) (one : List ℕ) → found ≡ None → found ≡ Some one → ⊥
none_some found one a b = let wrong : None ≡ Some one = sym a ∙ b in (cc)

-- of a file that cannot be read for one error, no later error holds
not_before : (file : List ℕ) (one other : WebmFault) → WebmRefuses file one → WebmRefuses file other → stage one < stage other → ⊥
not_before file Header other a b less = a (headed file other less b)
not_before file DocType other a b less = a.1 (typed file other less b)
not_before file NoTracks other a b less =
    let found = tracked file other less b in
    let same : a.1.0 ≡ found.0 = walks_are_one file a.1.0 found.0 a.1.1 found.2.is in
    none_some (tracks_of file found.0) found.1 (ap (tracks_of file) (sym same) ∙ a.1.2) found.2.content
not_before file NoVideo other a b less =
    let found = shown file other less b in
    let same = tracks_one file a.0 found.0 a.1 found.1 a.2 found.3.in_tracks in
    none_some (video_in found.1) found.2 (ap video_in (sym same.1) ∙ a.3) found.3.video
not_before file Encoded other a b less =
    let found = planned file other less b in
    let same = video_one file a.0 found.0 a.1 found.1 a.2 found.2 a.3 found.3 in
    a.4 (subst IsPlain (sym same.2) found.4)
not_before file Scale other a b less =
    let found = streamed file other less b in
    let same = video_one file a.0 found.0 a.1 found.1 a.2 found.2 a.3 found.3.video in
    a.5 (subst (λ w. HasScale (scale_of file w)) (sym same.0) found.3.scale)
not_before file TooMany NoMemory a b less =
    let found = b.1 in
    let same = video_one file a.0 found.walk a.1 found.tracks a.2 found.entry a.3.video found.stream.video in
    a.4 (subst (λ w. IsFew file w a.1 a.2) (sym same.0) (subst (λ t. IsFew file found.walk t a.2) (sym same.1) (subst (λ e. IsFew file found.walk found.tracks e) (sym same.2) found.few)))
not_before file TooMany Header a b less = omega (arith, less)
not_before file TooMany DocType a b less = omega (arith, less)
not_before file TooMany NoTracks a b less = omega (arith, less)
not_before file TooMany NoVideo a b less = omega (arith, less)
not_before file TooMany Encoded a b less = omega (arith, less)
not_before file TooMany Scale a b less = omega (arith, less)
not_before file TooMany TooMany a b less = omega (arith, less)
not_before file NoMemory Header a b less = omega (arith, less)
not_before file NoMemory DocType a b less = omega (arith, less)
not_before file NoMemory NoTracks a b less = omega (arith, less)
not_before file NoMemory NoVideo a b less = omega (arith, less)
not_before file NoMemory Encoded a b less = omega (arith, less)
not_before file NoMemory Scale a b less = omega (arith, less)
not_before file NoMemory TooMany a b less = omega (arith, less)
not_before file NoMemory NoMemory a b less = omega (arith, less)

abbrev fault_at : ℕ → WebmFault
fault_at n = cond (eqb n 0) Header (cond (eqb n 1) DocType (cond (eqb n 2) NoTracks (cond (eqb n 3) NoVideo (cond (eqb n 4) Encoded (cond (eqb n 5) Scale (cond (eqb n 6) TooMany NoMemory))))))

fault_is : (fault : WebmFault) → fault_at (stage fault) ≡ fault
fault_is Header = refl
fault_is DocType = refl
fault_is NoTracks = refl
fault_is NoVideo = refl
fault_is Encoded = refl
fault_is Scale = refl
fault_is TooMany = refl
fault_is NoMemory = refl

pub one_fault : (file : List ℕ) (one other : WebmFault) → WebmRefuses file one → WebmRefuses file other → one ≡ other
one_fault file one other a b =
    let same : stage one ≡ stage other = elim (cases_lt (stage one) (stage other)) [
      | inl less ↦ absurd (not_before file one other a b less)
      | inr most ↦ elim (cases_lt (stage other) (stage one)) [
        | inl less ↦ absurd (not_before file other one b a less)
        | inr least ↦ omega (arith, most, least)
      ]
    ] in
    sym (fault_is one) ∙ ap fault_at same ∙ fault_is other
