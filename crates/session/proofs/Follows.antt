-- A step that follows from another.
use Rattle.std.proofs.Common.{ℕ, List, inl, inr}
use Rattle.std.specs.Prelude.{Result, Ok, Err}
use Rattle.access.specs.Points.{AccessRules, content_of, Point}
use Rattle.machine.specs.{Answers.{Answer, Step}, Stages.Stage, Steps.{StepAt, StepOrPart, StepWritten}, declared.env.Env.Env}
use Rattle.session_replies.proofs.Steps.{SteppedWith}

module _ (rules : AccessRules) (first step : Step)
    (goes : (at : Point) (a : Answer) → first at.halted (content_of at) a → step at.halted (content_of at) a) (p q : Point) where
  step_at : (a : Answer) → StepAt rules first p a q → StepAt rules step p a q
  step_at a happens = record {
    at = happens.at;
    later = happens.later;
    step_is = goes happens.at a happens.step_is;
    moves = happens.moves;
  }

  pub written_so : (writes : List ℕ → Type 0) (phase' : Stage) (env' : Env) → StepWritten rules first p q phase' env' writes
      → StepWritten rules step p q phase' env' writes
  written_so writes phase' env' done = record {
    answer = done.answer;
    happens = step_at done.answer done.happens;
    phase_after = done.phase_after;
    env_after = done.env_after;
    written = done.written;
  }

  pub follows : (writes : List ℕ → Type 0) {E : Type 0} (r : Result Stage E) (env' : Env) → SteppedWith r env' writes rules p q first → SteppedWith r env' writes
      rules p q step
  follows writes (Ok phase') env' done = written_so writes phase' env' done
  follows writes (Err e) env' (inl nothing) = inl nothing
  follows writes (Err e) env' (inr (a, happens, part)) = inr (a, step_at a happens, part)

  pub lost_so : (part : Step) (writes : List ℕ → Type 0) → StepOrPart rules first part p q writes → StepOrPart rules step part p q writes
  lost_so part writes (inl (inl nothing)) = inl (inl nothing)
  lost_so part writes (inl (inr (a, happens, told))) = inl (inr (a, step_at a happens, told))
  lost_so part writes (inr (a, happens, unwritten)) = inr (a, happens, unwritten)
