-- The row is forced and judged where it is written, and the other words are set before it.
use Rattle.std.proofs.Common.{◌∙◌, ◌≡◌, ◌+◌, ◌<◌, ◌/◌, ◌^◌, Bool, List, ℕ, ℤ, ap, arith, false, length, pos, refl, subst, suc, sym, take, true}
use lib.Dec.{eqb}
use mir.Syntax.{w64}
use mir.Val.{bool_byte}
use mir.ValLaws.{to_z-of_z, to_z_pos}
use borrow.Author.Rules.{sfits_of}
use Rattle.registry.specs.Code.{as_projection, group_in, project_of}
use Rattle.evaluate.specs.Verdict.{if_passed}
use Rattle.classifier.specs.Code.{JudgingIn, ProjectsAs, forced_row, rules_of}
use Rattle.classifier.specs.Page.{flag}
use Rattle.classifier.proofs.Walked.{walking_judges}
use Rattle.classifier.proofs.Wording.{laid_part, laid_words, place_few}
use Rattle.classifier.proofs.tabled.Tabled.write_verdict.Goals.{After-judge-place}
use Rattle.classifier.proofs.tabled.Tabled.write_verdict.Goals as goal

flag_is : (b : Bool) → pos (bool_byte b) ≡ flag b
flag_is true = refl
flag_is false = refl

module _ (c : After-judge-place) where
  abbrev file : List ℕ
  file = c.args.self.now.walk.plan.file.now

  abbrev rules : List ℕ
  rules = rules_of c.args.self.now.groups.heads.now (length c.args.self.now.walk.plan.order.now) c.args.self.now.groups.constraints

  abbrev raw : List ℤ
  raw = c.args.raw.now

  judging : JudgingIn file (take (suc (length c.args.self.now.walk.plan.order.now)) c.args.self.now.groups.heads.now) rules c.args.enables.now c.args.self.now.checks.chosen.now c.args.self.now.due.chosen.now (length raw)
  judging =
      let self = c.args.self.now in
      subst (JudgingIn file (take (suc (length self.walk.plan.order.now)) self.groups.heads.now) rules c.args.enables.now self.checks.chosen.now self.due.chosen.now) (sym c.requires.wide.0) (walking_judges self.walking c.args.enables.now c.requires.enables)

  small : c.judge-place.result < 2 ^ 63
  small = omega (arith, c.judge-place.ensures.place, place_few raw judging (forced_row file rules c.args.enables.now raw))

pub overflow_cast-out : goal.overflow_cast-out
overflow_cast-out c = record { sfits = small (goal.at.overflow_cast-out c).After-judge-place }

pub returns : goal.returns
returns c =
    let t = (goal.at.returns c).After-judge-place in
    let place = c.judge-place.result in
    let row = c.judge-place.new.row in
    let out = c.args.out.now in
    let p = c.projection-p in
    let wide = c.requires.wide.0 in
    let long : length out ≡ length (raw t) + 4 = omega (arith, c.requires.wide.1) in
    let part = laid_part (raw t) (judging t) out long row c.judge-place.ensures.row in
    laid_words (raw t) (judging t) out long row c.judge-place.ensures.row c.args.projector place (as_projection p.result) c.put_projection.new.out _ _
    (subst (ProjectsAs (file t) c.args.projector) (sym wide) c.requires.projector) c.judge-place.ensures.place
    (p.ensures ∙ ap (λ (r : List ℤ). if_passed place (project_of (group_in (file t) c.args.projector (length (file t) / 32)) r)) part)
    (to_z-of_z w64 c.from.result (sfits_of c.from.type_inv) ∙ c.from.ensures ∙ flag_is (eqb place 0)) (to_z_pos w64 place (small t)) c.put_projection.ensures
