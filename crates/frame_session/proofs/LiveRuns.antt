-- A live run, line after line.
use Rattle.std.proofs.Common.{◌≡◌, ℕ, ◌+◌, ◌-◌, ◌^◌, ◌<◌, ◌≤◌, Bool, true, false, cond, ◌||◌, List, [], ◌∷◌, ◌++◌, Option, Some, None, IfSome, OnSome, Ok, length, append_assoc, append-nil, refl, sym, ap, ◌∙◌, subst, arith}
use Rattle.std.proofs.lemmas.Bool.{true≢false}
use Rattle.std.proofs.lemmas.List.Elements.{All-nil}
use Rattle.std.proofs.lemmas.Grind.{flat_map-append}
use Rattle.std.specs.Io.{IsEmptyOrEndsWith}
use Rattle.std.specs.Io.KnownBytes.{Appends, Consumes, IsAtEnd}
use Rattle.std.specs.Str.Lines.{lines, strip_carriage_return}
use Rattle.std.proofs.KnownBytes.{Appends-trans, Consumes-nil, Consumes-trans}
use Rattle.vp8_tables.specs.declared.tables.Tables.{Tables}
use Rattle.stream_files.specs.declared.streams.Stream.{Stream}
use Rattle.request_lines.specs.declared.lines.Line.{Line}
use Rattle.state_cache.specs.declared.capacity.Capacity.{Capacity}
use Rattle.frame_session.specs.declared.live.LiveFault.{LiveFault}
use Rattle.frame_session.specs.declared.live.LiveFault.TheVariants as faults
use Rattle.frame_session.specs.Sessions.{SessionState}
use Rattle.frame_session.specs.Cached.{SessionValue, begun}
use Rattle.frame_session.specs.LineCosts.{LineCosts, LiveMeansAtCost}
use Rattle.frame_session.proofs.AtCost.{costs_append}
use Rattle.frame_session.specs.Answers.{Answer, AreStreams, AnswersEach, WritesAnswers, WritesAnswer, WritesUntilError, WritesFrameFirst, frames_of, replies_of}
use Rattle.frame_session.specs.Live.{AnswersText, AreAsked, CutsOff, IsAsked, IsCutOff, LiveEnds, LiveMeans, LiveRefuses, longest_line}
use Rattle.frame_session.specs.declared.live.LineRead.{LineRead}
use Rattle.frame_session.specs.Noted.{LiveMeansNoted, refuses_some}
use Rattle.frame_session.proofs.Noted.{noted_append, or_false}
use Rattle.frame_session.specs.LiveSteps.{IsRead, IsShort, MayFollow, ReadsLine, RunsText}
use Rattle.frame_session.proofs.Served.{runs_more, runs_none}
use Rattle.frame_session.proofs.LiveReads.{at_end}
use Rattle.frame_session.proofs.LiveLines.{IsOnly, asked-append, count-append, ends-append, newline_ends, only_before_newline, only_last, only_short, short-append}

pub run_append : (old mid new : SessionState) (ls ls' : List Line) (xs ys : List Answer) → AnswersEach old ls xs mid → AnswersEach mid ls' ys new → AnswersEach old (ls ++ ls') (xs ++ ys) new
run_append old mid new [] ls' [] ys same ran = subst (λ now. AnswersEach now ls' ys new) same ran
run_append old mid new [] ls' (x ∷ xs) ys ran ran' = absurd ran
run_append old mid new (l ∷ ls) ls' [] ys ran ran' = absurd ran
run_append old mid new (l ∷ ls) ls' (x ∷ xs) ys ran ran' = (ran.0, ran.1, run_append ran.0 mid new ls ls' xs ys ran.2 ran')

-- lines, and lines after them
abbrev pub runs_append : (old mid new : SessionState) (ls ls' : List Line) (f f' f'' r r' r'' : Option (List ℕ)) → WritesAnswers old ls f f' r r' mid → WritesAnswers mid ls' f' f'' r' r'' new → WritesAnswers old (ls ++ ls') f f'' r r'' new
runs_append old mid new ls ls' f f' f'' r r' r'' ran more = record {
  answers = ran.answers ++ more.answers;
  means = run_append old mid new ls ls' ran.answers more.answers ran.means more.means;
  shown = subst (Appends f f'') (sym (flat_map-append (λ x. x.frames) ran.answers more.answers)) (Appends-trans f f' f'' (frames_of ran.answers) (frames_of more.answers) ran.shown more.shown);
  said = subst (Appends r r'') (sym (flat_map-append (λ x. x.reply) ran.answers more.answers)) (Appends-trans r r' r'' (replies_of ran.answers) (replies_of more.answers) ran.said more.said);
}

-- lines, and then lines that a writer's error stops at their last one
module _ (old mid : SessionState) (ls ls' : List Line) (f f' f'' r r' r'' : Option (List ℕ)) (ran : WritesAnswers old ls f f' r r' mid) (s : WritesUntilError mid ls' f' f'' r' r'') where
  abbrev stops_append : WritesUntilError old (ls ++ ls') f f'' r r''
  stops_append = record {
    done = ls ++ s.done;
    line = s.line;
    rest = s.rest;
    whole = append_assoc ls s.done (s.line ∷ s.rest) ∙ ap (λ rest. ls ++ rest) s.whole;
    mid = s.mid;
    frames_mid = s.frames_mid;
    replies_mid = s.replies_mid;
    ran = runs_append old mid s.mid ls s.done f f' s.frames_mid r r' s.replies_mid ran s.ran;
    new = s.new;
    frame_first = s.frame_first;
  }

-- a text of no lines
abbrev no_text : (old : SessionState) (f r : Option (List ℕ)) → AnswersText old [] f f r r old
no_text old f r = record { short = All-nil (λ line. length line ≤ longest_line); requests = []; asked = tt; runs = runs_none old f r }

-- the lines of a text, and of a text after it
abbrev text_append : (old mid new : SessionState) (whole text : List ℕ) (f f' f'' r r' r'' : Option (List ℕ)) → IsEmptyOrEndsWith whole 10 → AnswersText old whole f f' r r' mid → AnswersText mid text f' f'' r' r'' new → AnswersText old (whole ++ text) f f'' r r'' new
text_append old mid new whole text f f' f'' r r' r'' ends x y = record {
  short = short-append whole text ends x.short y.short;
  requests = x.requests ++ y.requests;
  asked = asked-append whole text x.requests y.requests ends x.asked y.asked;
  runs = runs_append old mid new x.requests y.requests f f' f'' r r' r'' x.runs y.runs;
}

-- the only line of a text was answered, or a writer refused its answer
module _ (old new : SessionState) (text line : List ℕ) (is : IsOnly text line) (request : Line) (asked : IsAsked line request) (f f' r r' : Option (List ℕ)) where
  all_asked : AreAsked (lines text) (request ∷ [])
  all_asked = subst (λ ls. AreAsked ls (request ∷ [])) (sym is.one) (asked, tt)

  abbrev only_answered : WritesAnswer old request f f' r r' new → AnswersText old text f f' r r' new
  only_answered served = record {
    short = only_short text line is;
    requests = request ∷ [];
    asked = all_asked;
    runs = runs_more old old new [] request f f f' r r r' (runs_none old f r) served;
  }

  only_refused : (a b : Option (List ℕ)) → Consumes a b text → WritesFrameFirst old request f f' r r' new → LiveRefuses old a b f f' r r'
  only_refused a b taken first = record {
    text = text;
    taken = taken;
    requests = request ∷ [];
    asked = all_asked;
    stops = record { done = []; line = request; rest = []; whole = refl; mid = old; frames_mid = f; replies_mid = r; ran = runs_none old f r; new = new; frame_first = first };
    last = refl;
  }

-- the next line was read
module _ (old new : SessionValue) (a b f f' r r' : Option (List ℕ)) (line : List ℕ) (short : IsShort line) (request : Line) (seen seen' : Bool) where
  pub line_answered : Consumes a b (line ++ 10 ∷ []) → IsAsked (strip_carriage_return line) request → (served : WritesAnswer old.state request f f' r r' new.state) → LineCosts old request served.answer new → seen' ≡ (seen || refuses_some (request ∷ []) (served.answer ∷ [])) → RunsText 1 old new a b f f' r r' true seen seen'
  line_answered taken asked served costs noted =
      let only = only_before_newline line short in
      record {
        text = line ++ 10 ∷ [];
        taken = taken;
        follows = newline_ends line;
        many = omega (arith, ap length only.one);
        answers = only_answered old.state new.state (line ++ 10 ∷ []) (strip_carriage_return line) only request asked f f' r r' served;
        costs = (new, served.means, costs, refl);
        noted = noted;
      }

  pub last_answered : Consumes a b line → OnSome a (IsAtEnd b) → 0 < length line → IsAsked line request → (served : WritesAnswer old.state request f f' r r' new.state) → LineCosts old request served.answer new → seen' ≡ (seen || refuses_some (request ∷ []) (served.answer ∷ [])) → RunsText 0 old new a b f f' r r' false seen seen'
  last_answered taken end some asked served costs noted = record {
    text = line;
    taken = taken;
    follows = end;
    many = omega arith;
    answers = only_answered old.state new.state line line (only_last line short some) request asked f f' r r' served;
    costs = (new, served.means, costs, refl);
    noted = noted;
  }

  pub line_refused : Consumes a b (line ++ 10 ∷ []) → IsAsked (strip_carriage_return line) request → WritesFrameFirst old.state request f f' r r' new.state → LiveEnds old.state a b f f' r r' faults.Write
  line_refused taken asked first = only_refused old.state new.state (line ++ 10 ∷ []) (strip_carriage_return line) (only_before_newline line short) request asked f f' r r' a b taken first

  pub last_refused : Consumes a b line → 0 < length line → IsAsked line request → WritesFrameFirst old.state request f f' r r' new.state → LiveEnds old.state a b f f' r r' faults.Write
  last_refused taken some asked first = only_refused old.state new.state line line (only_last line short some) request asked f f' r r' a b taken first

-- no line is left
pub none_left : (old : SessionValue) (a b f r : Option (List ℕ)) (seen : Bool) (line : List ℕ) → line ≡ [] → Consumes a b line → OnSome a (IsAtEnd b) → RunsText 0 old old a b f f r r false seen seen
none_left old a b f r seen line none taken end = record { text = []; taken = subst (Consumes a b) none taken; follows = end; many = omega arith; answers = no_text old.state f r; costs = refl; noted = sym (or_false seen) }

-- the next line was read, if its newline follows it (t) or it is not empty
module _ (old new : SessionValue) (a b f f' r r' : Option (List ℕ)) (read : LineRead) (request : Line) where
  -- for all bytes that may have been read, the request is the line's
  abbrev pub IsRequest : Bool → Type 0
  IsRequest t = (line : List ℕ) → IsRead read line → IsAsked (cond t (strip_carriage_return line) line) request

  some_bytes : (line : List ℕ) → IsRead read line → (read.length ≡ 0 → ⊥) → 0 < length line
  some_bytes line is some = by_length line refl
    where
      by_length : (l : List ℕ) → line ≡ l → 0 < length line
      by_length [] e = absurd (some (is.length ∙ ap length e))
      by_length (x ∷ xs) e = omega (arith, ap length e)

  pub read_answered : (seen seen' : Bool) (t : Bool) → ReadsLine a b read (Ok t) → (t ≡ false → read.length ≡ 0 → ⊥) → IsRequest t → (served : WritesAnswer old.state request f f' r r' new.state) → LineCosts old request served.answer new → seen' ≡ (seen || refuses_some (request ∷ []) (served.answer ∷ [])) → RunsText (cond t 1 0) old new a b f f' r r' t seen seen'
  read_answered seen seen' true x some asked served costs noted = line_answered old new a b f f' r r' x.0 x.2 request seen seen' x.3 (asked x.0 x.1) served costs noted
  read_answered seen seen' false x some asked served costs noted =
      last_answered old new a b f f' r r' x.0 x.2 request seen seen' x.3 x.4 (some_bytes x.0 x.1 (some refl)) (asked x.0 x.1) served costs noted

  pub read_refused : (t : Bool) → ReadsLine a b read (Ok t) → (t ≡ false → read.length ≡ 0 → ⊥) → IsRequest t → WritesFrameFirst old.state request f f' r r' new.state → LiveEnds old.state a b f f' r r' faults.Write
  read_refused true x some asked first = line_refused old new a b f f' r r' x.0 x.2 request false false x.3 (asked x.0 x.1) first
  read_refused false x some asked first = last_refused old new a b f f' r r' x.0 x.2 request false false x.3 (some_bytes x.0 x.1 (some refl)) (asked x.0 x.1) first

-- nothing was read at the end
pub nothing_left : (old : SessionValue) (a b f r : Option (List ℕ)) (seen : Bool) (read : LineRead) (t : Bool) → ReadsLine a b read (Ok t) → t ≡ false → read.length ≡ 0 → RunsText 0 old old a b f f r r false seen seen
nothing_left old a b f r seen read true x is none = absurd (true≢false is)
nothing_left old a b f r seen read false x is none = none_left old a b f r seen x.0 (no_bytes x.0 (sym x.1.length ∙ none)) x.3 x.4
  where
    no_bytes : (line : List ℕ) → length line ≡ 0 → line ≡ []
    no_bytes [] e = refl
    no_bytes (y ∷ ys) e = absurd (omega (arith, e))

-- nothing was read yet
pub text_none : (old : SessionValue) (a f r : Option (List ℕ)) (seen : Bool) → RunsText 0 old old a a f f r r true seen seen
text_none old a f r seen = record {
  text = [];
  taken = Consumes-nil a;
  follows = λ some. absurd (omega (arith, some));
  many = omega arith;
  answers = no_text old.state f r;
  costs = refl;
  noted = sym (or_false seen);
}

-- a line that is cut off after more lines
cut_off_later : (before text part : List ℕ) (fault : LiveFault) → IsEmptyOrEndsWith before 10 → IsCutOff text part fault → IsCutOff (before ++ text) part fault
cut_off_later before text part (faults.Source source why) ends cut = cut
cut_off_later before text part faults.Read ends cut = cut
cut_off_later before text part faults.TooLong ends cut = cut
cut_off_later before text part faults.Endless ends cut = (cut.0, omega (arith, cut.1, count-append before text ends))
cut_off_later before text part faults.Write ends cut = cut
cut_off_later before text part faults.NoMemory ends cut = cut

module _ (least : ℕ) (old mid new : SessionValue) (a b c f f' f'' r r' r'' : Option (List ℕ)) (seen seen' : Bool) (x : RunsText least old mid a b f f' r r' true seen seen') where
  follows_more : (more : Bool) (text : List ℕ) → MayFollow more b c text → MayFollow more a c (x.text ++ text)
  follows_more true text follows = ends-append x.text text x.follows follows
  follows_more false text follows = at_end a b c x.text x.taken follows

  -- one more line
  pub text_more : (n : ℕ) (more : Bool) (seen'' : Bool) → RunsText n mid new b c f' f'' r' r'' more seen' seen'' → RunsText (least + n) old new a c f f'' r r'' more seen seen''
  text_more n more seen'' y = record {
    text = x.text ++ y.text;
    taken = Consumes-trans a b c x.text y.text x.taken y.taken;
    follows = follows_more more y.text y.follows;
    many = omega (arith, x.many, y.many, count-append x.text y.text x.follows);
    answers = text_append old.state mid.state new.state x.text y.text f f' f'' r r' r'' x.follows x.answers y.answers;
    costs = costs_append old mid new x.answers.requests y.answers.requests x.answers.runs.answers y.answers.runs.answers x.costs y.costs;
    noted = noted_append old.state mid.state x.answers.requests y.answers.requests x.answers.runs.answers y.answers.runs.answers seen seen' seen'' x.answers.runs.means x.noted y.noted;
  }

  -- the next line is cut off
  cut_more : (fault : LiveFault) → CutsOff mid.state b c f' f'' r' r'' fault → CutsOff old.state a c f f'' r r'' fault
  cut_more fault y = record {
    text = x.text ++ y.text;
    part = y.part;
    taken = subst (Consumes a c) (sym (append_assoc x.text y.text y.part)) (Consumes-trans a b c x.text (y.text ++ y.part) x.taken y.taken);
    whole = ends-append x.text y.text x.follows y.whole;
    cut_off = cut_off_later x.text y.text y.part fault x.follows y.cut_off;
    new = y.new;
    answers = text_append old.state mid.state y.new x.text y.text f f' f'' r r' r'' x.follows x.answers y.answers;
  }

  -- the next answer is refused
  refused_more : LiveRefuses mid.state b c f' f'' r' r'' → LiveRefuses old.state a c f f'' r r''
  refused_more y = record {
    text = x.text ++ y.text;
    taken = Consumes-trans a b c x.text y.text x.taken y.taken;
    requests = x.answers.requests ++ y.requests;
    asked = asked-append x.text y.text x.answers.requests y.requests x.follows x.answers.asked y.asked;
    stops = stops_append old.state mid.state x.answers.requests y.requests f f' f'' r r' r'' x.answers.runs y.stops;
    last = y.last;
  }

  pub ends_more : (fault : LiveFault) → LiveEnds mid.state b c f' f'' r' r'' fault → LiveEnds old.state a c f f'' r r'' fault
  ends_more (faults.Source source why) y = cut_more (faults.Source source why) y
  ends_more faults.Read y = cut_more faults.Read y
  ends_more faults.TooLong y = cut_more faults.TooLong y
  ends_more faults.Endless y = cut_more faults.Endless y
  ends_more faults.Write y = refused_more y
  ends_more faults.NoMemory y = cut_more faults.NoMemory y

-- a text of at least some number of lines
pub any_number : (n : ℕ) (more : Bool) (seen seen' : Bool) (old new : SessionValue) (a b f f' r r' : Option (List ℕ)) → RunsText n old new a b f f' r r' more seen seen' → RunsText 0 old new a b f f' r r' more seen seen'
any_number n more seen seen' old new a b f f' r r' x = record { text = x.text; taken = x.taken; follows = x.follows; many = omega arith; answers = x.answers; costs = x.costs; noted = x.noted }

-- no more lines are read
pub ends_endless : (n : ℕ) (seen seen' : Bool) (old mid : SessionValue) (a b f f' r r' : Option (List ℕ)) → 2 ^ 64 - 1 ≤ n → RunsText n old mid a b f f' r r' true seen seen' → LiveEnds old.state a b f f' r r' faults.Endless
ends_endless n seen seen' old mid a b f f' r r' most x = record {
  text = x.text;
  part = [];
  taken = subst (Consumes a b) (sym (append-nil x.text)) x.taken;
  whole = x.follows;
  cut_off = (refl, omega (arith, most, x.many));
  new = mid.state;
  answers = x.answers;
}

module _ (old : SessionState) (a b f r : Option (List ℕ)) (part : List ℕ) (taken : Consumes a b part) where
  cut_first : (fault : LiveFault) → IsCutOff [] part fault → CutsOff old a b f f r r fault
  cut_first fault cut = record {
    text = [];
    part = part;
    taken = taken;
    whole = λ some. absurd (omega (arith, some));
    cut_off = cut;
    new = old;
    answers = no_text old f r;
  }

  -- the first line was not read
  pub ends_first : (fault : LiveFault) → IsCutOff [] part fault → LiveEnds old a b f f r r fault
  ends_first (faults.Source source why) cut = absurd cut
  ends_first faults.Read cut = cut_first faults.Read cut
  ends_first faults.TooLong cut = cut_first faults.TooLong cut
  ends_first faults.Endless cut = cut_first faults.Endless cut
  ends_first faults.Write cut = absurd cut
  ends_first faults.NoMemory cut = absurd cut

-- what was read to its end is all
pub read_all : (a b : Option (List ℕ)) (text : List ℕ) → Consumes a b text → OnSome a (IsAtEnd b) → IfSome a (λ bytes. text ≡ bytes)
read_all None b text taken end = tt
read_all (Some xs) None text taken end = absurd taken
read_all (Some xs) (Some ys) text taken end = sym (taken ∙ ap (λ rest. text ++ rest) end ∙ append-nil text)

-- a run of live lines from its first session
module _ (tables : Tables) (capacity : Capacity) (sources : List (List ℕ)) (a b f f' r r' : Option (List ℕ)) (seen seen' : Bool) (files : List Stream) (first end : SessionValue) (are : AreStreams sources files) (is : first ≡ begun tables capacity files) (ran : RunsText 0 first end a b f f' r r' false seen seen') where
  so : RunsText 0 (begun tables capacity files) end a b f f' r r' false seen seen'
  so = subst (λ (v : SessionValue). RunsText 0 v end a b f f' r r' false seen seen') is ran

  abbrev means : LiveMeans tables sources a b f f' r r' end.state
  means = record { text = so.text; taken = so.taken; all = read_all a b so.text so.taken so.follows; files = files; are = are; answers = so.answers }

  pub live_means_at_cost : LiveMeansAtCost tables capacity sources a b f f' r r' end
  live_means_at_cost = record { means = means; costs = so.costs }

  pub live_means_noted : LiveMeansNoted tables sources a b f f' r r' end.state seen seen'
  live_means_noted = record { means = means; noted = so.noted }
