-- A run one call longer.
use Rattle.std.proofs.Common.{◌≡◌, ℕ, ◌+◌, ◌<◌, List, [], ◌∷◌, ◌++◌, map, set, take, drop, length, get_or, refl, sym, ap, ap₂, ◌∙◌, subst, inl, true, arith}
use Rattle.std.proofs.lemmas.List.{take_more, take_more_set, map_push, length-set, drop-set-lt, drop-drop}
use Rattle.std.proofs.lemmas.Option.{none-some}
use Rattle.tlb.specs.declared.tlb.Tlb as tlb
use Rattle.tlb.specs.Meaning.{TlbMeaning}
use Rattle.frames.specs.declared.allocator.FrameAllocator as allocator
use Rattle.frames.specs.Meaning.{FramesMeaning}
use Rattle.law.specs.declared.calls.Call.{Call}
use Rattle.law.specs.declared.calls.Event.{Event}
use Rattle.law.specs.Calls.{call_of}
use Rattle.law.specs.PageMap.{PageMap, nothing, next, after}
use Rattle.law.specs.Law.{State, Right, Accounted}
use Rattle.law.specs.Runs.{Kept, SpaceRun, Obeys}
use Rattle.space.specs.declared.space.Space.{Space}
use Rattle.space.specs.Space.{seen, page_map, Lawful}

after_more : (m : PageMap) (es : List Event) (e : Event) → after m (es ++ e ∷ []) ≡ next (after m es) e
after_more m [] e = refl
after_more m (x ∷ es) e = after_more (next m x) es e

run_more : {A B : Type 0} (t : TlbMeaning A) (k : FramesMeaning B) (start : B) (m : PageMap) (s v u : State A B) (es : List Event) (e : Event) → SpaceRun t k start m s es v → Right t k (after m es) v e u
    → Kept t k start (next (after m es) e) u → SpaceRun t k start m s (es ++ e ∷ []) u
run_more t k start m s v u [] e (d, same) r kept = (d, (u, subst (λ w. Right t k m w e u) same r, (kept, refl)))
run_more t k start m s v u (x ∷ es) e (d, (w, right, rest)) r kept = (d, (w, right, run_more t k start (next m x) w v u es e rest r kept))

module _ {A B : Type 0} {t : tlb.Ghosts A} {k : allocator.Ghosts B} where
  -- the events led from the space s to the space u
  pub record Runs (s : Space A B t k) (es : List Event) (u : Space A B t k) : Type 0 where
    pub run : (start : B) → Accounted k.meaning start (page_map s) s.frames → SpaceRun t.meaning k.meaning start (page_map s) (seen s) es (seen u)
    pub becomes : page_map u ≡ after (page_map s) es
    pub accounts : (start : B) → Accounted k.meaning start (page_map s) s.frames → Accounted k.meaning start (page_map u) u.frames

  pub runs_none : (s : Space A B t k) → Runs s [] s
  runs_none s = record { run = λ start a. (record { sound = s.sound; accounted = a }, refl); becomes = refl; accounts = λ start a. a }

  pub runs_more : (s v u : Space A B t k) (es : List Event) (e : Event) → Runs s es v → Lawful v e u → Runs s (es ++ e ∷ []) u
  runs_more s v u es e r d =
      let m : PageMap = page_map s in
      let ends : page_map u ≡ next (after m es) e = d.becomes ∙ ap (λ n. next n e) r.becomes in
      record {
        run = λ start a.
            run_more t.meaning k.meaning start m (seen s) (seen v) (seen u) es e (r.run start a) (subst (λ n. Right t.meaning k.meaning n (seen v) e (seen u)) r.becomes d.right)
            (subst (λ n. Kept t.meaning k.meaning start n (seen u)) ends (record { sound = u.sound; accounted = d.accounts start (r.accounts start a) }));
        becomes = ends ∙ sym (after_more m es e);
        accounts = λ start a. d.accounts start (r.accounts start a);
      }

  -- a run from a new space
  pub obeys : (given : A) (frames : B) (s u : Space A B t k) (es : List Event) → page_map s ≡ nothing → t.meaning.flushed given s.tlb → s.frames ≡ frames → Accounted k.meaning frames (page_map s) s.frames → Runs s es u
      → Obeys t.meaning k.meaning given frames es (seen u)
  obeys given frames s u es new flushed same at_start r = record {
    first = s.tlb;
    flushed = flushed;
    empty = λ p x h. none-some x (sym (ap (λ n. n.pages p) new) ∙ s.sound.coherent p x h);
    run = subst (λ f. SpaceRun t.meaning k.meaning frames nothing (record { tlb = s.tlb; frames = f }) es (seen u)) same
        (subst (λ n. SpaceRun t.meaning k.meaning frames n (seen s) es (seen u)) new (r.run frames at_start));
  }

-- the first i calls have their events, and the other places are as they were
pub record Sofar (calls : List Call) (before now : List Event) (i : ℕ) : Type 0 where
  pub long : length now ≡ length before
  pub own : map call_of (take i now) ≡ take i calls
  pub rest : drop i now ≡ drop i before

pub further : (calls : List Call) (before now : List Event) (i : ℕ) (c : Call) (e : Event) → i < length calls → i < length now → call_of e ≡ get_or calls i c → Sofar calls before now i → Sofar calls before (set now i e) (i + 1)
further calls before now i c e l h own s = record {
  long = length-set now i e ∙ s.long;
  own = ap (map call_of) (take_more_set now i e h) ∙ map_push call_of (take i now) e ∙ ap₂ (λ xs x. xs ++ x ∷ []) s.own own ∙ sym (take_more calls i c l);
  rest = drop-set-lt (i + 1) now i e (omega arith) ∙ sym (drop-drop 1 i now) ∙ ap (drop 1) s.rest ∙ drop-drop 1 i before;
}
