-- A file from what is known of it before and after memory is taken.
use Rattle.std.proofs.Common.{◌≡◌, ℕ, ◌+◌, ◌^◌, ◌<◌, ◌≤◌, Bool, true, ◌&&◌, List, length, drop, refl, sym, ap, ◌∙◌, subst, arith, Decides, leb, ltb, ◌↔◌, IsTrue}
use Rattle.std.specs.List.{filter}
use Rattle.std.proofs.lemmas.Bool.{leb-true, le-leb}
use Rattle.std.proofs.lemmas.Bool.Decides.{Decides-and, Decides-ltb}
use Rattle.stream_files.specs.declared.streams.Head.{Head}
use Rattle.stream_files.specs.declared.packets.TheConstants.{MAX_PACKETS}
use Rattle.webm_files.specs.declared.ids.TheConstants.{DEFAULT_DURATION}
use Rattle.webm_files.specs.declared.files.Webm.{Webm}
use Rattle.webm_files.specs.declared.files.WebmFault.TheVariants.{TooMany}
use Rattle.webm_files.specs.Elements.{width, after_number, id_of, is_known, head_size, content_size}
use Rattle.webm_files.specs.Walks.{Walk, IsCut}
use Rattle.webm_files.specs.Blocks.{blocks_of}
use Rattle.webm_files.specs.Children.{field, number_or}
use Rattle.webm_files.specs.Tracks.{IsHead, number_of, numbers_of}
use Rattle.webm_files.specs.Kept.{gaps_of, parts_of, skipped}
use Rattle.webm_files.specs.Clusters.{timeless_of}
use Rattle.webm_files.specs.Lengths.{wrong_lengths}
use Rattle.webm_files.specs.Packets.{HasCount, is_packet, listed_in, packets_in, unlisted_in}
use Rattle.webm_files.specs.Files.{HasContents, IsFew, IsWebm, WebmRefuses, scale_of}
use Rattle.webm_files.specs.Starts.{IsRead, IsStart}
use Rattle.webm_files.proofs.OneAnswer.{walks_are_one}

-- the number of packets, by the walk that is known before
counted : (file tracks entry : List ℕ) (head : Head) (video count : ℕ) → (start : IsStart file tracks entry head) → video ≡ number_of entry → HasCount file video count
    → count ≡ length (filter (is_packet (number_of entry)) (blocks_of file start.walk.elements))
counted file tracks entry head video count start is found =
    let same : found.walk ≡ start.walk = walks_are_one file found.walk start.walk found.is start.stream.video.in_tracks.is in
    found.count ∙ ap (λ v. length (filter (is_packet v) (blocks_of file found.walk.elements))) is ∙ ap (λ (w : Walk). length (filter (is_packet (number_of entry)) (blocks_of file w.elements))) same

pub too_many : (file tracks entry : List ℕ) (head : Head) (video count : ℕ) → IsStart file tracks entry head → video ≡ number_of entry → HasCount file video count → MAX_PACKETS < count → WebmRefuses file TooMany
too_many file tracks entry head video count start is found many =
    let number = counted file tracks entry head video count start is found in
    (start.walk, tracks, entry, start.stream, λ few. absurd (omega (arith, few.packets, number, many)))

pub is_few : (file tracks entry : List ℕ) (head : Head) (video count : ℕ) → (start : IsStart file tracks entry head) → video ≡ number_of entry → HasCount file video count → count ≤ MAX_PACKETS → IsFew file start.walk tracks entry
is_few file tracks entry head video count start is found most =
    let number = counted file tracks entry head video count start is found in record {
      elements = start.elements;
      entries = start.entries;
      packets = omega (arith, number, most);
    }

pub is_webm : (file tracks entry : List ℕ) (head : Head) (webm : Webm) → (start : IsStart file tracks entry head) → IsFew file start.walk tracks entry → IsRead file tracks entry head webm → IsWebm file webm
is_webm file tracks entry head webm start few read = record {
  walk = start.walk;
  tracks = tracks;
  entry = entry;
  stream = start.stream;
  few = few;
  head = subst (IsHead entry (scale_of file start.walk)) (sym read.same) start.head_is;
  contents = subst (λ w. HasContents file w tracks entry webm) (walks_are_one file read.walk start.walk read.is start.stream.video.in_tracks.is) read.contents;
}

-- whether the end of a file cuts an element can be tested
Decides-le : (a b : ℕ) → Decides (leb a b) (a ≤ b)
Decides-le a b = (leb-true a b, le-leb a b)

Decides-true : (b : Bool) → Decides b (b ≡ true)
Decides-true b = (λ e. e, λ e. e)

unfoldable is_cut : List ℕ → Bool
is_cut text = ((leb (width text) 4 && leb (width text) (length text)) && (leb (width (after_number text)) 8 && leb (width (after_number text)) (length (after_number text))))
    && (is_known (id_of text) && (ltb (content_size text + 1) (128 ^ width (after_number text)) && ltb (length text) (head_size text + content_size text)))

abbrev Parts : List ℕ → Type 0
Parts text = (((width text ≤ 4) × (width text ≤ length text)) × ((width (after_number text) ≤ 8) × (width (after_number text) ≤ length (after_number text))))
    × ((is_known (id_of text) ≡ true) × ((content_size text + 1 < 128 ^ width (after_number text)) × (length text < head_size text + content_size text)))

decides : (text : List ℕ) → Decides (is_cut text) (Parts text)
unfolding is_cut
decides text = Decides-and _ _ (Decides-and _ _ (Decides-and _ _ (Decides-le _ _) (Decides-le _ _)) (Decides-and _ _ (Decides-le _ _) (Decides-le _ _))) (Decides-and _ _ (Decides-true _) (Decides-and _ _ (Decides-ltb _ _) (Decides-ltb _ _)))

cut_is : (text : List ℕ) → IsTrue (is_cut text) ↔ IsCut text
cut_is text = (
  λ e. let parts = (decides text).0 e in record { head = (parts.0.0, parts.0.1); known = parts.1.0; sized = parts.1.1.0; cut = parts.1.1.1 },
  λ cut. (decides text).1 (((cut.head.0.0, cut.head.0.1), (cut.head.1.0, cut.head.1.1)), (cut.known, (cut.sized, cut.cut))),
)

-- there is such a file
pub some_webm : (file tracks entry : List ℕ) (head : Head) → (start : IsStart file tracks entry head) → IsFew file start.walk tracks entry → (webm : Webm) × IsWebm file webm
some_webm file tracks entry head start few =
    let walk : Walk = start.walk in
    let blocks = blocks_of file walk.elements in
    let webm : Webm = record {
      head = head;
      packets = packets_in file (number_of entry) blocks;
      spare = skipped (gaps_of file walk);
      media = record {
        video = number_of entry;
        default_duration = number_or 0 (field DEFAULT_DURATION entry);
        numbers = numbers_of tracks;
        blocks = listed_in (numbers_of tracks) blocks;
        unlisted = unlisted_in (numbers_of tracks) blocks;
        gaps = gaps_of file walk;
        parts = parts_of walk.elements;
        timeless = timeless_of walk.elements;
        lengths = wrong_lengths file (is_cut (drop walk.end file)) walk.elements;
        is_cut = is_cut (drop walk.end file);
      };
    } in (
      webm,
      is_webm file tracks entry head webm start few (record {
        walk = walk;
        is = start.stream.video.in_tracks.is;
        same = refl;
        contents = record {
          packets = refl;
          spare = refl;
          video = refl;
          duration = refl;
          numbers = refl;
          blocks = refl;
          unlisted = refl;
          gaps = refl;
          parts = refl;
          timeless = refl;
          lengths = refl;
          cut = cut_is (drop walk.end file);
        };
      }),
    )
