-- Counts: of what has a property, and of blocks with a row, after the body of one block is another.
use Rattle.std.proofs.Common.{◌≡◌, ℕ, zero, suc, ◌+◌, ◌*◌, ◌/◌, ◌<◌, ◌≤◌, Bool, true, false, Option, sym, ap, ◌∙◌, ⊎_elim, arith}
use Rattle.std.proofs.lemmas.Bool.{cases_Bool, both_ways}
use Rattle.words.specs.Points.{at}
use Rattle.chains.specs.declared.node.Body.{Body}
use Rattle.chains.specs.Counting.{how_many, Exactly}
use Rattle.chains.proofs.Counts.{one, one_most, many_same, many_at, many_next, many_nothing}
use Rattle.chains.proofs.Held.{at_map}
use Rattle.chains.proofs.Linking.{at_there}

-- a property is had by one number of numbers
pub exactly_one : (n m k : ℕ) (P : ℕ → Type 0) → Exactly n k P → Exactly m k P → n ≡ m
exactly_one n m k P x y = x.many ∙ many_same x.test y.test k (λ i l. ⊎_elim
    (λ t. t ∙ sym ((y.tells i l).1 ((x.tells i l).0 t)))
    (λ f. ⊎_elim (λ t. absurd (both_ways _ f ((x.tells i l).1 ((y.tells i l).0 t)))) (λ g. f ∙ sym g) (cases_Bool (y.test i)))
    (cases_Bool (x.test i))) ∙ sym y.many

-- one that passes, and two
pub at_least_one : (f : ℕ → Bool) (b n : ℕ) → b < n → f b ≡ true → 1 ≤ how_many f n
at_least_one f b n l p = let a = many_at f b false n l in let x = ap one p in omega arith

pub at_least_two : (f : ℕ → Bool) (b d n : ℕ) → b < n → d < n → (d ≡ b → ⊥) → f b ≡ true → f d ≡ true → 2 ≤ how_many f n
at_least_two f b d n l m ne p q =
    let a = many_at f b false n l in
    let x = ap one p in
    let r = at_least_one (at f b false) d n m (at_there f b false d ne ∙ q) in
    omega arith

-- the body of one block is y
pub tested : (B : ℕ → Option Body) (b : ℕ) (y : Option Body) (g : Option Body → Bool) (n : ℕ) → b < n → how_many (λ d. g (at B b y d)) n + one (g (B b)) ≡ how_many (λ d. g (B d)) n + one (g y)
tested B b y g n l = ap (λ f. how_many f n + one (g (B b))) (at_map g B b y) ∙ many_at (λ d. g (B d)) b (g y) n l

-- of k numbers from n on at most k pass, and none where none of them does
many_more : (f : ℕ → Bool) (n k : ℕ) → how_many f (n + k) ≤ how_many f n + k
many_more f n zero = let e = ap (how_many f) (let z : n + 0 ≡ n = omega arith in z) in omega arith
many_more f n (suc k) =
    let h = many_more f n k in
    let m = many_next f (n + k) in
    let o = one_most (f (n + k)) in
    let e = ap (how_many f) (let z : n + suc k ≡ suc (n + k) = omega arith in z) in
    omega arith

no_more : (f : ℕ → Bool) (n k : ℕ) → ((i : ℕ) → n ≤ i → i < n + k → f i ≡ false) → how_many f (n + k) ≡ how_many f n
no_more f n zero h = ap (how_many f) (let z : n + 0 ≡ n = omega arith in z)
no_more f n (suc k) h =
    let r = no_more f n k (λ i a b. h i a (omega arith)) in
    let m = many_next f (n + k) in
    let o = ap one (h (n + k) (omega arith) (omega arith)) in
    let e = ap (how_many f) (let z : n + suc k ≡ suc (n + k) = omega arith in z) in
    omega arith

-- at most sixteen pages of each block that passes
pub by_blocks : (f g : ℕ → Bool) (n : ℕ) → ((p : ℕ) → g (p / 16) ≡ false → f p ≡ false) → how_many f (n * 16) ≤ 16 * how_many g n
by_blocks f g zero h = let e = many_nothing f in omega arith
by_blocks f g (suc n) h =
    let r = by_blocks f g n h in
    let m = many_next g n in
    let e = ap (how_many f) (let z : suc n * 16 ≡ n * 16 + 16 = omega arith in z) in
    ⊎_elim
    (λ t. let o = ap one t in let l = many_more f (n * 16) 16 in omega arith)
    (λ q. let o = ap one q in let l = no_more f (n * 16) 16 (λ i a b. h i (ap g (let z : i / 16 ≡ n = omega arith in z) ∙ q)) in omega arith)
    (cases_Bool (g n))
