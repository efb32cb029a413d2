-- A plain map that is fed one call more.
use Rattle.std.proofs.Common.{◌≡◌, ℕ, zero, suc, ◌+◌, ◌<◌, Result, Ok, Err, MatchResult, Option, Some, None, is_some, List, [], ◌∷◌, ◌++◌, map, set, take, length, get_or, sym, refl, ap, ap₂, ◌∙◌, subst, arith}
use Rattle.std.specs.Result.{is_err}
use Rattle.words.specs.Blocks.{Mapping}
use Rattle.chains.specs.Orders.{Order, no_order}
use Rattle.table.specs.declared.events.TableEvent.{TableEvent}
use Rattle.std.proofs.lemmas.List.{take_more_set}
use Rattle.table.specs.declared.events.TableCall.{TableCall}
use Rattle.table.specs.declared.table.PageTable.{PageTable}
use Rattle.std.proofs.lemmas.Bool.{both_ways}
use Rattle.words.specs.declared.address.Page.{Page}
use Rattle.words.specs.declared.translation.Translation.{Translation}
use Rattle.blocks.specs.declared.blocks.Walked.{Walked}
use Rattle.blocks.specs.Blocks.{Walks}
use Rattle.table.specs.declared.events.TableCall.TheVariants.{Unmap, Walk}
use Rattle.table.specs.declared.fault.NotMapped.{NotMapped}
use Rattle.table.specs.Calls.{unmapped, released, mapped_refusals}
use Rattle.table.specs.Faults.{not_mapped_number}
use Rattle.words.specs.Refusals.{First, Accepted}
use Rattle.table.specs.Replay.{refusals, done, next, next_order, Right, Performs, fed, fed_order, AllRight}
use Rattle.table.specs.Table.{mapping}

pub fed_more : (m : Mapping) (es : List TableEvent) (e : TableEvent) → fed m (es ++ e ∷ []) ≡ next (fed m es) e.call e.refused
fed_more m [] e = refl
fed_more m (x ∷ es) e = fed_more (next m x.call x.refused) es e

pub right_more : (m : Mapping) (es : List TableEvent) (e : TableEvent) → AllRight m es → Right (fed m es) e.call e.refused → AllRight m (es ++ e ∷ [])
right_more m [] e a r = (r, tt)
right_more m (x ∷ es) e (q, a) r = (q, right_more (next m x.call x.refused) es e a r)

pub fed_order_more : (m : Mapping) (o : Order) (es : List TableEvent) (e : TableEvent) → fed_order m o (es ++ e ∷ []) ≡ next_order (fed m es) (fed_order m o es) e.call e.refused
fed_order_more m o [] e = refl
fed_order_more m o (x ∷ es) e = fed_order_more (next m x.call x.refused) (next_order m o x.call x.refused) es e

-- a call that answers a result
module _ {T E : Type 0} (s u : PageTable) (c : TableCall) (number : E → ℕ) (P : T → Type 0) where
  pub performed : (r : Result T E) → ((x : T) → P x → Accepted (refusals (mapping s) c) × (mapping u ≡ done (mapping s) c))
      → MatchResult r P (λ e. First (refusals (mapping s) c) (number e) × (u ≡ s)) → Performs (mapping s) c (is_err r) (mapping u)
  performed (Ok x) f p = f x p
  performed (Err e) f (n, same) = ((number e, n), ap mapping same)

-- the calls of a list stay where one event is written over that of its call
same_calls : (es : List TableEvent) (i : ℕ) (d e : TableEvent) → i < length es → e.call ≡ (get_or es i d).call → map (λ (x : TableEvent). x.call) (set es i e) ≡ map (λ (x : TableEvent). x.call) es
same_calls [] i d e l q = refl
same_calls (x ∷ es) zero d e l q = ap (λ y. y ∷ map (λ (z : TableEvent). z.call) es) q
same_calls (x ∷ es) (suc i) d e l q = ap (λ ys. x.call ∷ ys) (same_calls es i d e (omega arith) q)

-- the first i calls were made
pub record Made (before now : List TableEvent) (i : ℕ) (m : Mapping) (o : Order) : Type 0 where
  pub calls : map (λ (e : TableEvent). e.call) now ≡ map (λ (e : TableEvent). e.call) before
  pub right : AllRight unmapped (take i now)
  pub held : m ≡ fed unmapped (take i now)
  pub order : o ≡ fed_order unmapped no_order (take i now)

pub made_more : (before now : List TableEvent) (i : ℕ) (m n : Mapping) (o q : Order) (d e : TableEvent) → i < length now → e.call ≡ (get_or now i d).call → Performs m e.call e.refused n → q ≡ next_order m o e.call e.refused
    → Made before now i m o → Made before (set now i e) (i + 1) n q
made_more before now i m n o q d e l same (r, h) w a =
    let t = take_more_set now i e l in
    record {
      calls = same_calls now i d e l same ∙ a.calls;
      right = subst (AllRight unmapped) (sym t) (right_more unmapped (take i now) e a.right (subst (λ k. Right k e.call e.refused) a.held r));
      held = h ∙ ap (λ k. next k e.call e.refused) a.held ∙ sym (ap (fed unmapped) t ∙ fed_more unmapped (take i now) e);
      order = w ∙ ap₂ (λ k v. next_order k v e.call e.refused) a.held a.order ∙ sym (ap (fed_order unmapped no_order) t ∙ fed_order_more unmapped no_order (take i now) e);
    }

none_some : (x : Option Translation) (t : Translation) → x ≡ Some t → x ≡ None → ⊥
none_some x t e n = both_ways _ (ap is_some (sym e ∙ n)) refl

pub unmapped_one : (s : PageTable) (p : Page) (t : Translation) (n : Mapping) → mapping s p.number ≡ Some t → n ≡ released (mapping s) p.number → Accepted (refusals (mapping s) (Unmap p)) × (n ≡ done (mapping s) (Unmap p))
unmapped_one s p t n m e = ((none_some _ t m, tt), e)

pub walked : (s : PageTable) (p : Page) (r : Result Walked NotMapped) → MatchResult r (λ w. Walks (mapping s) p.number w) (λ _. First (mapped_refusals (mapping s) p.number) not_mapped_number) → Performs (mapping s) (Walk p) (is_err r) (mapping s)
walked s p (Ok w) q = let (t, e) = q.mapped in ((none_some _ t e, tt), refl)
walked s p (Err x) f = ((not_mapped_number, f), refl)
