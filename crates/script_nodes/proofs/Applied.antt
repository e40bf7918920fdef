-- Steps applied to a picture in sequence.
use Rattle.std.specs.Prelude.{IsSome, is_some, is_ok}
use Rattle.std.specs.Result.{result_ok}
use Rattle.std.proofs.lemmas.List.{drop_all}
use Rattle.std.proofs.Common.{◌≡◌, ℕ, suc, ◌+◌, ◌<◌, ◌≤◌, Bool, true, false, Option, None, Some, Result, Ok, Err, List, [], ◌∷◌, length, drop, get_or, refl, sym, ap, subst, ◌∙◌, arith, add-one}
use Rattle.std.proofs.Math.Seq.{drop-cons}
use Rattle.std.proofs.lemmas.Bool.{leb-true}
use Rattle.pixel_planes.specs.Pictures.{PictureSamples}
use Rattle.script_nodes.specs.declared.nodes.Area.{Area}
use Rattle.script_nodes.specs.declared.traces.Step.{Step}
use Rattle.script_nodes.specs.declared.traces.Step.TheVariants.{Cut, Weigh}
use Rattle.script_nodes.specs.Frames.{after_steps}
use Rattle.script_nodes.specs.Shown.{Shown, Shows, shown_in, is_inside, position_in, cut_to, black, weighed, faded_to, step_shown, use_step, steps_shown, Size, step_size, use_size, steps_size}
use Rattle.script_nodes.specs.Planes.{ShowsMade}
use Rattle.script_nodes.proofs.Uses.{both}
use Rattle.script_nodes.proofs.Sizes.{none_after}
use Rattle.script_nodes.proofs.PlaneRows.{place_inside}

shown_none : (steps : List Step) → after_steps use_step steps None ≡ None
shown_none [] = refl
shown_none (step ∷ steps) = shown_none steps

-- steps make a picture exactly if they leave a size
pub shown_where_size : (steps : List Step) (s : Shown) → is_some (steps_size steps (s.width, s.height)) ≡ is_some (steps_shown steps s)
shown_where_size [] s = refl
shown_where_size (Weigh weight ∷ steps) s = shown_where_size steps (faded_to weight s)
shown_where_size (Cut area ∷ steps) s = by_inside (is_inside area s.width s.height) refl (shown_where_size steps (cut_to area s))
  where
    by_inside : (b : Bool) → is_inside area s.width s.height ≡ b → is_some (steps_size steps (area.width, area.height)) ≡ is_some (steps_shown steps (cut_to area s)) → is_some (steps_size (Cut area ∷ steps) (s.width, s.height)) ≡ is_some (steps_shown (Cut area ∷ steps) s)
    by_inside true e ih = rw e ih
    by_inside false e ih = rw e (ap is_some (none_after steps) ∙ sym (ap is_some (shown_none steps)))

pub none_shown : (o : Option Shown) → is_some o ≡ false → o ≡ None
none_shown None h = refl
none_shown (Some s) h = cc

-- a picture that shows an area of another, which shows `s`, shows the area of `s`
cut_shows : (p next : PictureSamples) (s : Shown) (area : Area) → Shows p s → is_inside area p.width p.height ≡ true → Shows next (cut_to area (shown_in p)) → Shows next (cut_to area s)
cut_shows p next s area before inside made = record {
  wide = made.wide;
  high = made.high;
  each = λ component x y across down.
      let w : area.x + area.width ≤ p.width = leb-true (area.x + area.width) p.width (both _ _ inside).0 in
      let h : area.y + area.height ≤ p.height = leb-true (area.y + area.height) p.height (both _ _ inside).1 in
      made.each component x y across down
      ∙ before.each component (position_in component area.x + x) (position_in component area.y + y) (place_inside component area.x area.width p.width x w (rw (← made.wide) across)) (place_inside component area.y area.height p.height y h (rw (← made.high) down));
}

fade_shows : (p next : PictureSamples) (s : Shown) (weight : ℕ) → Shows p s → Shows next (faded_to weight (shown_in p)) → Shows next (faded_to weight s)
fade_shows p next s weight before made = record {
  wide = made.wide ∙ before.wide;
  high = made.high ∙ before.high;
  each = λ component x y across down. made.each component x y across down ∙ ap (weighed weight (black component)) (before.each component x y (rw (← made.wide) across) (rw (← made.high) down));
}

-- a step applied to shown samples
pub record IsStepped (step : Step) (p next : PictureSamples) (s : Shown) : Type 0 where
  pub now : Shown
  pub is : step_shown step s ≡ Some now
  pub shows : Shows next now
  pub size : step_size step (p.width, p.height) ≡ Some (next.width, next.height)

pub stepped : (step : Step) (p next : PictureSamples) (s : Shown) → Shows p s → ShowsMade (step_shown step (shown_in p)) next → IsStepped step p next s
stepped (Weigh weight) p next s before made = record {
  now = faded_to weight s;
  is = refl;
  shows = fade_shows p next s weight before made;
  size = rw (made.wide, made.high) refl;
}
stepped (Cut area) p next s before made = by_inside (is_inside area p.width p.height) refl made
  where
    by_inside : (b : Bool) → is_inside area p.width p.height ≡ b → ShowsMade (step_shown (Cut area) (shown_in p)) next → IsStepped (Cut area) p next s
    by_inside true e m =
        let shows : Shows next (cut_to area (shown_in p)) = rw e at m in
        record {
          now = cut_to area s;
          is = rw (← before.wide, ← before.high, e) refl;
          shows = cut_shows p next s area before e shows;
          size = rw (e, shows.wide, shows.high) refl;
        }
    by_inside false e m = let none = rw e at m in absurd none

-- the first i steps applied to a picture
pub record IsMade (steps : List Step) (i : ℕ) (picture made : PictureSamples) : Type 0 where
  pub now : Shown
  pub shows : Shows made now
  pub left : steps_shown steps (shown_in picture) ≡ steps_shown (drop i steps) now
  pub some : IsSome (steps_size (drop i steps) (made.width, made.height))
  pub same : i ≡ 0 → made ≡ picture

pub shows_itself : (p : PictureSamples) → Shows p (shown_in p)
shows_itself p = record { wide = refl; high = refl; each = λ component x y across down. refl }

pub made_first : (steps : List Step) (picture made : PictureSamples) → made ≡ picture → IsSome (steps_size steps (picture.width, picture.height)) → IsMade steps 0 picture made
made_first steps picture made is some = record {
  now = shown_in picture;
  shows = rw is (shows_itself picture);
  left = refl;
  some = rw is some;
  same = λ none. is;
}

pub made_next : (steps : List Step) (i : ℕ) (picture made next : PictureSamples) (d : Step) → IsMade steps i picture made → i < length steps → ShowsMade (step_shown (get_or steps i d) (shown_in made)) next → IsMade steps (i + 1) picture next
made_next steps i picture made next d before less shows =
    let step : Step = get_or steps i d in
    let more : IsStepped step made next before.now = stepped step made next before.now before.shows shows in
    let rest : drop i steps ≡ step ∷ drop (i + 1) steps = rw (add-one i) (drop-cons steps i d less) in
    record {
      now = more.now;
      shows = more.shows;
      left = before.left ∙ ap (λ l. steps_shown l before.now) rest ∙ ap (after_steps use_step (drop (i + 1) steps)) more.is;
      some = subst (λ (o : Option Size). IsSome (after_steps use_size (drop (i + 1) steps) o)) more.size (subst (λ (l : List Step). IsSome (steps_size l (made.width, made.height))) rest before.some);
      same = λ none. absurd (omega arith);
    }

-- the next step leaves a size
pub next_size : (steps : List Step) (i : ℕ) (picture made : PictureSamples) (d : Step) → IsMade steps i picture made → i < length steps → IsSome (step_size (get_or steps i d) (made.width, made.height))
next_size steps i picture made d before less =
    some_first (step_size (get_or steps i d) (made.width, made.height)) (subst (λ (l : List Step). IsSome (steps_size l (made.width, made.height))) (drop-cons steps i d less) before.some)
  where
    some_first : (o : Option Size) → IsSome (after_steps use_size (drop (suc i) steps) o) → IsSome o
    some_first None h = rw (none_after (drop (suc i) steps)) at h
    some_first (Some size) h = refl

pub made_shows : (steps : List Step) (i : ℕ) (picture made : PictureSamples) → IsMade steps i picture made → length steps ≤ i → ShowsMade (steps_shown steps (shown_in picture)) made
made_shows steps i picture made before all =
    let end : steps_shown steps (shown_in picture) ≡ Some before.now = before.left ∙ ap (λ (l : List Step). steps_shown l before.now) (drop_all i steps all) in
    rw end before.shows

-- what the result says of the size
pub size_answered : {E : Type 0} (r : Result Size E) (steps : List Step) (p : PictureSamples) (w h : ℕ) → result_ok r ≡ steps_size steps (w, h) → w ≡ p.width → h ≡ p.height → is_some (steps_size steps (p.width, p.height)) ≡ is_ok r
size_answered {E = E} r steps p w h is wide high = rw (← wide, ← high) (sym (ap is_some is) ∙ ok_some r)
  where
    ok_some : (q : Result Size E) → is_some (result_ok q) ≡ is_ok q
    ok_some (Ok x) = refl
    ok_some (Err e) = refl

pub shown_answered : {E : Type 0} (r : Result Size E) (steps : List Step) (p : PictureSamples) (w h : ℕ) → result_ok r ≡ steps_size steps (w, h) → w ≡ p.width → h ≡ p.height → is_some (steps_shown steps (shown_in p)) ≡ is_ok r
shown_answered r steps p w h is wide high = sym (shown_where_size steps (shown_in p)) ∙ size_answered r steps p w h is wide high
