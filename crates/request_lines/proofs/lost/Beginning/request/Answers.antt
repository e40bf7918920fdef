use Rattle.std.proofs.Common.{◌≡◌, ℕ, Bool, true, false, cond, ◌&&◌, ◌==◌, Option, Some, None, sym, ap, ◌∙◌, eq-eqb, ne_eqb, refl}
use Rattle.request_lines.specs.declared.lines.Line.{Line}
use Rattle.request_lines.specs.declared.lines.Line.TheVariants.{Silent, Lost}
use Rattle.request_lines.specs.Lost.{is_return, lost_from}
use Rattle.request_lines.proofs.Beginnings.{request_is}
use Rattle.request_lines.proofs.lost.Beginning.request.Goals as goal
use Rattle.request_lines.proofs.lost.Beginning.request.Goals.{else-is_terminated-via-then-is_terminated+else-is_return, else-is_terminated-via-else-is_terminated}

none_or : (b : Bool) → cond {A = Option ℕ} b None None ≡ None
none_or true = refl
none_or false = refl

comment : (b : Bool) (first : ℕ) → first ≡ 35 → lost_from (cond b None (Some first)) ≡ Silent
comment true first e = refl
comment false first e = ap (λ (t : Bool). cond t Silent Lost) (eq-eqb first 35 e)

other : (b : Bool) (first : ℕ) → b ≡ false → (first ≡ 35 → ⊥) → lost_from (cond b None (Some first)) ≡ Lost
other b first e ne = ap (λ (t : Bool). lost_from (cond t None (Some first))) e ∙ ap (λ (t : Bool). cond t Silent Lost) (ne_eqb first 35 ne)

both : (a b : Bool) → a ≡ true → b ≡ false → (a && b) ≡ false
both a b e e' = rw (e, e') refl

pub returns-in_default : goal.returns-in_default
returns-in_default c = λ line is.
    let b : Bool = c.args.is_terminated && is_return c.args.self in
    sym (request_is c.args.self line c.args.is_terminated is ∙ ap (λ (first : Option ℕ). lost_from (cond b None first)) c.in_default.is ∙ ap lost_from (none_or b))

pub returns-then-first-eq35 : goal.returns-then-first-eq35
returns-then-first-eq35 c = λ line is.
    let b : Bool = c.args.is_terminated && is_return c.args.self in
    sym (request_is c.args.self line c.args.is_terminated is ∙ ap (λ (first : Option ℕ). lost_from (cond b None first)) c.in-Some.is ∙ comment b c.in-Some.first c.if-first-eq35.true)

pub returns-then-is_return : goal.returns-then-is_return
returns-then-is_return c = λ line is.
    let same : (c.args.is_terminated && is_return c.args.self) ≡ true = rw (c.if-is_terminated.true, sym c.is_return.ensures, c.if-is_return.true) refl in
    sym (request_is c.args.self line c.args.is_terminated is ∙ ap (λ (t : Bool). lost_from (cond t None c.args.self.first)) same)

pub returns : goal.returns
returns c = λ line is.
    let b : Bool = c.args.is_terminated && is_return c.args.self in
    let no : b ≡ false = elim c.else-is_terminated.branch [
      | else-is_terminated-via-then-is_terminated+else-is_return w ↦ both c.args.is_terminated (is_return c.args.self) w.if-is_terminated.true (sym w.is_return.ensures ∙ w.if-is_return.false)
      | else-is_terminated-via-else-is_terminated w ↦ ap (λ (t : Bool). t && is_return c.args.self) w.if-is_terminated.false
    ] in
    sym (request_is c.args.self line c.args.is_terminated is ∙ ap (λ (first : Option ℕ). lost_from (cond b None first)) c.in-Some.is ∙ other b c.in-Some.first no c.if-first-eq35.false)
