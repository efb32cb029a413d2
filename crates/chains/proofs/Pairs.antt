-- Nodes, by the lists of their blocks and of their contents.
use Rattle.std.proofs.Common.{◌≡◌, ℕ, zero, suc, ◌<◌, List, [], ◌∷◌, length, get_or, set, replicate, option_and_then, refl, ap, arith}
use Rattle.std.specs.List.{slice_get}
use Rattle.words.specs.declared.address.Block.{Block}
use Rattle.chains.specs.declared.node.Content.{Content}
use Rattle.chains.specs.Contents.{Node, paired, content_body, body_in}

pub paired_length : (bs : List Block) (xs : List Content) → length bs ≡ length xs → length (paired bs xs) ≡ length bs
paired_length [] xs e = refl
paired_length (b ∷ bs) [] e = absurd (omega arith)
paired_length (b ∷ bs) (x ∷ xs) e = ap suc (paired_length bs xs (omega arith))

pub paired_set : (bs : List Block) (xs : List Content) (i : ℕ) (b : Block) (x : Content) → paired (set bs i b) (set xs i x) ≡ set (paired bs xs) i (record { block = b; content = x })
paired_set [] xs i b x = refl
paired_set (c ∷ bs) [] zero b x = refl
paired_set (c ∷ bs) [] (suc i) b x = refl
paired_set (c ∷ bs) (y ∷ xs) zero b x = refl
paired_set (c ∷ bs) (y ∷ xs) (suc i) b x = ap (λ ns. record { block = c; content = y } ∷ ns) (paired_set bs xs i b x)

pub paired_content : (bs : List Block) (xs : List Content) (i : ℕ) (d : Block) (x : Content) → i < length bs → paired bs (set xs i x) ≡ set (paired bs xs) i (record { block = get_or bs i d; content = x })
paired_content [] xs i d x l = refl
paired_content (c ∷ bs) [] zero d x l = refl
paired_content (c ∷ bs) [] (suc i) d x l = refl
paired_content (c ∷ bs) (y ∷ xs) zero d x l = refl
paired_content (c ∷ bs) (y ∷ xs) (suc i) d x l = ap (λ ns. record { block = c; content = y } ∷ ns) (paired_content bs xs i d x (omega arith))

pub paired_get : (bs : List Block) (xs : List Content) (i : ℕ) (d : Block) (e : Content) (n : Node) → i < length bs → i < length xs → get_or (paired bs xs) i n ≡ record { block = get_or bs i d; content = get_or xs i e }
paired_get [] xs i d e n l m = absurd (omega arith)
paired_get (c ∷ bs) [] i d e n l m = absurd (omega arith)
paired_get (c ∷ bs) (y ∷ xs) zero d e n l m = refl
paired_get (c ∷ bs) (y ∷ xs) (suc i) d e n l m = paired_get bs xs i d e n (omega arith) (omega arith)

pub paired_replicate : (k : ℕ) (b : Block) (x : Content) → paired (replicate k b) (replicate k x) ≡ replicate k (record { block = b; content = x })
paired_replicate zero b x = refl
paired_replicate (suc k) b x = ap (λ ns. record { block = b; content = x } ∷ ns) (paired_replicate k b x)

-- what the node i holds
pub body_there : (bs : List Block) (xs : List Content) (i : ℕ) (e : Content) → i < length bs → i < length xs → option_and_then body_in (slice_get (paired bs xs) i) ≡ content_body (get_or xs i e)
body_there [] xs i e l m = absurd (omega arith)
body_there (c ∷ bs) [] i e l m = absurd (omega arith)
body_there (c ∷ bs) (y ∷ xs) zero e l m = refl
body_there (c ∷ bs) (y ∷ xs) (suc i) e l m = body_there bs xs i e (omega arith) (omega arith)
