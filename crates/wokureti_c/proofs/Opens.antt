-- A session that was opened, and then put into a handle.
use Rattle.std.proofs.Common.{◌≡◌, ℕ, List, [], None, Some, Option, ap, map, refl, subst, sym, ◌∙◌}
use Rattle.stream_files.specs.declared.streams.Head.{Head}
use Rattle.vp8_tables.specs.declared.tables.Tables.{Tables}
use Rattle.stream_files.specs.declared.streams.Stream.{Stream}
use Rattle.frame_session.specs.Answers.{AreStreams, Means}
use Rattle.frame_session.specs.Sessions.{start}
use Rattle.frame_session.specs.Cached.{Capacity, SessionValue}
use Rattle.wokureti_c.specs.declared.engine.Engine.{Engine}
use Rattle.wokureti_c.specs.declared.opening.Opened.{Opened}
use Rattle.wokureti_c.specs.Openings.{AreHeads, AreTables, IsOpened}

pub is_opened : (files : List (List ℕ)) (capacity given : Capacity) (bytes : List ℕ) (opened : Opened) (engine : Engine) → (tables : Tables) × AreTables bytes tables × Means tables files [] None None None None opened.session.state
    → opened.session.cache.capacity ≡ given → given ≡ capacity → AreHeads files opened.heads.items → engine.session ≡ opened.session → engine.heads ≡ opened.heads → IsOpened files capacity bytes engine
is_opened files capacity given bytes opened engine found is same heads session its = record {
  tables = found.0;
  are = found.1;
  means = subst (λ (s : SessionValue). Means found.0 files [] None None None None s.state) (sym session) found.2;
  capacity_is = ap (λ (s : SessionValue). s.cache.capacity) session ∙ is ∙ same;
  heads = subst (λ hs. AreHeads files hs.items) (sym its) heads;
}

-- a session over streams in which nothing was asked
pub means_nothing : (tables : Tables) (sources : List (List ℕ)) (streams : List Stream) → AreStreams sources streams → Means tables sources [] None None None None (start tables streams)
means_nothing tables sources streams are = record {
  files = streams;
  are = are;
  runs = record { answers = []; means = refl; shown = tt; said = tt };
}
