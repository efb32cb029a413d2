-- What is refused, by the room that is lacking.
use Rattle.std.proofs.Common.{◌≡◌, ℕ, ◌≤◌, Some, None, Result, Ok, Err, MatchResult, is_some, sym, refl, ap, ◌∙◌, subst, arith}
use Rattle.std.proofs.lemmas.Bool.{both_ways, cond-true}
use Rattle.std.specs.Option.{option_map}
use Rattle.std.specs.Result.{IsErrAnd}
use Rattle.words.specs.declared.translation.Translation.{Translation}
use Rattle.words.specs.Layout.{block_of, offset_of, page_at}
use Rattle.words.specs.Points.{at}
use Rattle.words.specs.Reading.{translation}
use Rattle.words.specs.Blocks.{Mapping, IsMapped, Used}
use Rattle.words.proofs.Translations.{translation_is}
use Rattle.blocks.specs.declared.fault.NoRoom.{NoRoom}
use Rattle.blocks.specs.declared.fault.NoRoom.TheVariants.{NoNode, NoRow}
use Rattle.chains.specs.Orders.{Order}
use Rattle.chains.proofs.Linking.{at_here}
use Rattle.blocks.specs.Blocks.{RowsOut, set_refusals, is_used, reordered}
use Rattle.blocks.proofs.Ordered.{used_test}
use Rattle.blocks.specs.Faults.{room_number}
use Rattle.table.specs.Calls.{protected, map_refusals, protect_refusals}
use Rattle.words.specs.Refusals.{First, Accepted}

none_mapped : (m : Mapping) (p : ℕ) → m p ≡ None → IsMapped m p → ⊥
none_mapped m p e (t, i) = both_ways _ (ap is_some (sym i ∙ e)) refl

-- an error with the number n
pub refused_as : {T E : Type 0} (number : E → ℕ) (n : ℕ) (r : Result T E) (P : T → Type 0) (Q : E → Type 0) → IsErrAnd r (λ e. number e ≡ n) → ((e : E) → number e ≡ n → Q e) → MatchResult r P Q
refused_as number n (Ok x) P Q a q = absurd a
refused_as number n (Err e) P Q a q = q e a

module _ (m : Mapping) (p : ℕ) where
  pub map_refused : (t : Translation) (e : NoRoom) → m p ≡ None → First (set_refusals m p (Some t)) (room_number e) → First (map_refusals m p t) (room_number e)
  map_refused t NoNode none r = (none_mapped m p none, r)
  map_refused t NoRow none (nodes, rows) = (none_mapped m p none, (nodes, rows))

  pub map_accepted : (t : Translation) → m p ≡ None → Accepted (set_refusals m p (Some t)) → Accepted (map_refusals m p t)
  map_accepted t none room = (none_mapped m p none, room)

  -- the page's block is used, so it needs no node
  used : (t : Translation) → m p ≡ Some t → Used m (block_of p)
  used t e = (offset_of p, omega arith, (t, ap m (let z : page_at (block_of p) (offset_of p) ≡ p = omega arith in z) ∙ e))

  pub protected_is : (t u : Translation) (x : ℕ) → m p ≡ Some t → u.frame ≡ t.frame → u.attributes ≡ x → at m p (Some u) ≡ protected m p x
  protected_is t u x e f a = ap (at m p) (ap Some (translation_is u t.frame x f a) ∙ sym (ap (option_map (λ v. translation v.frame x)) e))

  module _ (t u : Translation) (x : ℕ) (e : m p ≡ Some t) (f : u.frame ≡ t.frame) (a : u.attributes ≡ x) (small : x ≤ 4095) where
    some : m p ≡ None → ⊥
    some n = none_mapped m p n (t, e)

    pub protect_refused : (r : NoRoom) → First (set_refusals m p (Some u)) (room_number r) → First (protect_refusals m p x) 8
    protect_refused NoNode (_, nu, _) = absurd (nu (used t e))
    protect_refused NoRow (_, rows) = ((λ l. omega arith), (some, subst (λ n. RowsOut m n (block_of p)) (protected_is t u x e f a) rows))

    pub protect_accepted : Accepted (set_refusals m p (Some u)) → Accepted (protect_refusals m p x)
    protect_accepted (_, (rows, _)) = ((λ l. omega arith), (some, ((λ r. rows (subst (λ n. RowsOut m n (block_of p)) (sym (protected_is t u x e f a)) r)), tt)))

  -- a page that stays mapped leaves its block where it is
  pub stays_used : (t u : Translation) (o : Order) → m p ≡ Some t → reordered m (at m p (Some u)) (block_of p) o ≡ o
  stays_used t u o e = cond-true (is_used (at m p (Some u)) (block_of p)) _ _ (used_test (at m p (Some u)) (block_of p)
      (offset_of p, omega arith, (u, ap (at m p (Some u)) here ∙ at_here m p (Some u) p refl)))
      ∙ cond-true (is_used m (block_of p)) _ _ (used_test m (block_of p) (used t e))
    where
      here : page_at (block_of p) (offset_of p) ≡ p
      here = omega arith
