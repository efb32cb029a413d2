-- How many numbers pass a test: one more, one less, all.
use Rattle.std.proofs.Common.{◌≡◌, ℕ, zero, suc, ◌+◌, ◌<◌, ◌≤◌, Bool, true, false, cond, sym, refl, ap, ap₂, ⊎_elim, arith}
use Rattle.std.proofs.lemmas.Bool.{cases_eq, eq-eqb, ne_eqb, cond-true, cond-false}
use Rattle.words.specs.Points.{at}
use Rattle.chains.specs.Counting.{how_many}

-- whether a number passes, as a number
abbrev pub one : Bool → ℕ
one b = cond b 1 0

pub one_most : (b : Bool) → one b ≤ 1
one_most true = omega arith
one_most false = omega arith

pub many_nothing : (f : ℕ → Bool) → how_many f 0 ≡ 0
unfolding how_many
many_nothing f = refl

pub many_next : (f : ℕ → Bool) (n : ℕ) → how_many f (suc n) ≡ one (f n) + how_many f n
unfolding how_many
many_next f n = refl

pub many_same : (f h : ℕ → Bool) (n : ℕ) → ((k : ℕ) → k < n → f k ≡ h k) → how_many f n ≡ how_many h n
unfolding how_many
many_same f h zero e = refl
many_same f h (suc n) e = ap₂ ◌+◌ (ap one (e n (omega arith))) (many_same f h n (λ k l. e k (omega arith)))

-- the test changed at one number
pub many_at : (f : ℕ → Bool) (g : ℕ) (b : Bool) (n : ℕ) → g < n → how_many (at f g b) n + one (f g) ≡ how_many f n + one b
unfolding how_many
many_at f g b zero l = absurd (omega arith)
many_at f g b (suc n) l = ⊎_elim
    (λ e. let x = ap one (cond-true _ b (f n) (eq-eqb n g (sym e))) in
    let y = ap (λ k. one (f k)) e in
    let z = many_same (at f g b) f n (λ k m. cond-false _ b (f k) (ne_eqb k g (λ i. omega arith))) in
    omega arith)
    (λ ne. let x = ap one (cond-false _ b (f n) (ne_eqb n g (λ i. ne (sym i)))) in
    let z = many_at f g b n (omega arith) in
    omega arith)
    (cases_eq g n)

pub many_most : (f : ℕ → Bool) (n : ℕ) → how_many f n ≤ n
unfolding how_many
many_most f zero = omega arith
many_most f (suc n) = let i = many_most f n in let b = one_most (f n) in omega arith

pub many_all : (f : ℕ → Bool) (n : ℕ) → ((k : ℕ) → k < n → f k ≡ true) → how_many f n ≡ n
unfolding how_many
many_all f zero e = refl
many_all f (suc n) e = let i = many_all f n (λ k l. e k (omega arith)) in let b = ap one (e n (omega arith)) in omega arith

pub many_none : (f : ℕ → Bool) (n : ℕ) → ((k : ℕ) → k < n → f k ≡ false) → how_many f n ≡ 0
unfolding how_many
many_none f zero e = refl
many_none f (suc n) e = let i = many_none f n (λ k l. e k (omega arith)) in let b = ap one (e n (omega arith)) in omega arith

-- one that does not pass leaves fewer than all
pub many_less : (f : ℕ → Bool) (g n : ℕ) → g < n → f g ≡ false → how_many f n < n
many_less f g n l e =
    let a = many_at f g true n l in
    let b = ap one e in
    let c = many_most (at f g true) n in
    omega arith
