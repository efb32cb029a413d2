use Rattle.std.proofs.Common.{◌≡◌, ◌<◌, min, take, drop, map, length, refl, sym, ◌∙◌, subst, arith, ap}
use Rattle.std.proofs.lemmas.List.{take_more_set}
use Rattle.law.specs.Calls.{call_of}
use Rattle.law.specs.PageMap.{after}
use Rattle.space.specs.Plain.{plain}
use Rattle.space.proofs.Runs.{Runs, runs_none, runs_more, further, obeys}
use Rattle.space.proofs.plain.replay.Goals as goal
use Rattle.space.proofs.plain.replay.Goals.{After-loop-i}

pub loop-i-init : goal.loop-i-init
loop-i-init g c = (record { long = refl; own = refl; rest = refl }, runs_none (plain c.new-space.result))

pub loop-i-preserved : goal.loop-i-preserved
loop-i-preserved g c =
    let t = c.loop-i-test.true in
    let m = c.min-i-end.ensures in
    let l = c.loop-i.auto.events in
    let h : c.loop-i.i < length c.loop-i.events = omega arith in (
      further c.args.calls.now c.args.events.now c.loop-i.events c.loop-i.i c.index-calls-i.result c.perform.result (omega arith) h (c.perform.ensures.own ∙ c.index-calls-i.is) c.loop-i.invariant.0,
      subst (λ es. Runs (plain c.new-space.result) es (plain c.perform.new.self)) (sym (take_more_set c.loop-i.events c.loop-i.i c.perform.result h))
          (runs_more (plain c.new-space.result) (plain c.loop-i.space) (plain c.perform.new.self) (take c.loop-i.i c.loop-i.events) c.perform.result c.loop-i.invariant.1 c.perform.ensures.law),
    )

-- the loop is over at the shorter of both lengths
over : (g : _) (c : After-loop-i g) → c.loop-i.i ≡ min (length c.args.calls.now) (length c.args.events.now)
over g c = let f = c.loop-i-test.false in let e = c.loop-i.auto.i-end in let m = c.min-i-end.ensures in omega arith

pub returns-clause-answered : goal.returns-clause-answered
returns-clause-answered g c = let s = c.loop-i.invariant.0 in record {
  own = subst (λ k. map call_of (take k c.loop-i.events) ≡ take k c.args.calls.now) (over g c) s.own;
  rest = subst (λ k. drop k c.loop-i.events ≡ drop k c.args.events.now) (over g c) s.rest;
}

-- from the new space the events are a run
ran : (g : _) (c : After-loop-i g) → Runs (plain c.new-space.result) (take (min (length c.args.calls.now) (length c.args.events.now)) c.loop-i.events) (plain c.loop-i.space)
ran g c = subst (λ k. Runs (plain c.new-space.result) (take k c.loop-i.events) (plain c.loop-i.space)) (over g c) c.loop-i.invariant.1

pub returns-clause-law : goal.returns-clause-law
returns-clause-law g c =
    let n = c.new-space.ensures in
    obeys c.args.tlb c.args.frames (plain c.new-space.result) (plain c.loop-i.space) _ n.map n.flushed n.frames n.accounted (ran g c)

pub returns-clause-map : goal.returns-clause-map
returns-clause-map g c =
    let es = take (min (length c.args.calls.now) (length c.args.events.now)) c.loop-i.events in
    (ran g c).becomes ∙ ap (λ m. after m es) c.new-space.ensures.map
