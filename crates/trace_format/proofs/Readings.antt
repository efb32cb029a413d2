-- An input is read one way, and what is read is what is spelled.
use Rattle.std.proofs.Common.{◌≡◌, ℕ, ◌+◌, ◌^◌, ◌<◌, List, [], ◌∷◌, ◌++◌, length, take, drop, Some, None, Option, w16, w64, refl, sym, ap, ap₂, subst, subst₂, ◌∙◌, arith, append_assoc, length-append, drop-drop}
use Rattle.std.proofs.Math.Seq.{take-append_seam, drop-append_seam}
use Rattle.std.proofs.lemmas.Nat.{from_be_bytes-to_be_bytes_2, from_be_bytes-to_be_bytes_8}
use Rattle.std.specs.Int.{to_be_bytes, from_be_bytes}
use Rattle.trace_format.specs.declared.record.Kind.{Kind}
use Rattle.trace_format.specs.declared.record.Kind.TheVariants as kind
use Rattle.trace_format.specs.declared.record.Record.{Record}
use Rattle.trace_format.specs.declared.record.Record.TheVariants.{Populate, Release, Protect, Touch, Try, Census}
use Rattle.trace_format.specs.declared.fault.Trouble.{Trouble}
use Rattle.trace_format.specs.declared.fault.Trouble.TheVariants.{Cut, UnknownTag, WrongLength}
use Rattle.trace_format.specs.declared.fault.Fault.{Fault}
use Rattle.trace_format.specs.Kinds.{tag_of, payload_len}
use Rattle.trace_format.specs.Bytes.{kind_of, payload_of, Fits, AllFit, framed, spelled, Begins, Broken}
use Rattle.trace_format.specs.Records.{Ends, Reading}
use Rattle.trace_format.specs.Laws.{OneTrouble, OneReading, AnswersRead, Spells, SpelledAgain}

tag_apart : (k j : Kind) → tag_of k ≡ tag_of j → k ≡ j
tag_apart kind.Populate kind.Populate e = refl
tag_apart kind.Release kind.Release e = refl
tag_apart kind.Protect kind.Protect e = refl
tag_apart kind.Touch kind.Touch e = refl
tag_apart kind.Try kind.Try e = refl
tag_apart kind.Census kind.Census e = refl
tag_apart k j e = absurd (omega (arith, e))

-- two texts that begin with parts of one length
same_parts : (a b x y : List ℕ) → length a ≡ length b → a ++ x ≡ b ++ y → (a ≡ b) × (x ≡ y)
same_parts a b x y n e = (
  sym (take-append_seam a x) ∙ ap₂ take n e ∙ take-append_seam b y,
  sym (drop-append_seam a x) ∙ ap₂ drop n e ∙ drop-append_seam b y,
)

one_record : (bytes : List ℕ) (k j : Kind) (p q : List ℕ) → Begins bytes k p → Begins bytes j q → (k ≡ j) × (p ≡ q)
one_record bytes k j p q b c =
    let x = drop (3 + length p) bytes in
    let y = drop (3 + length q) bytes in
    let whole : tag_of k ∷ 0 ∷ payload_len k ∷ (p ++ x) ≡ tag_of j ∷ 0 ∷ payload_len j ∷ (q ++ y) = sym b.whole ∙ c.whole in
    let tags : tag_of k ≡ tag_of j = cc in
    let kinds : k ≡ j = tag_apart k j tags in
    let behind : p ++ x ≡ q ++ y = cc in
    (kinds, (same_parts p q x y (b.long ∙ ap payload_len kinds ∙ sym c.long) behind).0)

-- no record with a whole payload is broken
whole_record : (k : Kind) (p rest : List ℕ) (t : Trouble) → length p ≡ payload_len k → Broken (framed k p ++ rest) t → ⊥
whole_record k p rest UnknownTag n b = b k refl
whole_record k p rest WrongLength n b = let same : payload_len b.0 ≡ payload_len k = ap payload_len (tag_apart b.0 k b.1) in b.2 (omega arith)
whole_record k p rest Cut n b =
    let same : payload_len b.0 ≡ payload_len k = ap payload_len (tag_apart b.0 k b.1) in
    let short : length (p ++ rest) < payload_len b.0 = b.3 in
    omega (arith, length-append p rest)

not_begun : (bytes : List ℕ) (t : Trouble) (k : Kind) (p : List ℕ) → Broken bytes t → Begins bytes k p → ⊥
not_begun bytes t k p b c = whole_record k p (drop (3 + length p) bytes) t c.long (subst (λ s. Broken s t) c.whole b)

same_trouble : (bytes : List ℕ) (t u : Trouble) → Broken bytes t → Broken bytes u → t ≡ u
same_trouble [] t u b c = absurd b
same_trouble (tag ∷ []) t u b c = b ∙ sym c
same_trouble (tag ∷ high ∷ []) t u b c = b ∙ sym c
same_trouble (tag ∷ high ∷ low ∷ rest) Cut Cut b c = refl
same_trouble (tag ∷ high ∷ low ∷ rest) UnknownTag UnknownTag b c = refl
same_trouble (tag ∷ high ∷ low ∷ rest) WrongLength WrongLength b c = refl
same_trouble (tag ∷ high ∷ low ∷ rest) Cut UnknownTag b c = absurd (c b.0 b.1)
same_trouble (tag ∷ high ∷ low ∷ rest) WrongLength UnknownTag b c = absurd (c b.0 b.1)
same_trouble (tag ∷ high ∷ low ∷ rest) UnknownTag Cut b c = absurd (b c.0 c.1)
same_trouble (tag ∷ high ∷ low ∷ rest) UnknownTag WrongLength b c = absurd (b c.0 c.1)
same_trouble (tag ∷ high ∷ low ∷ rest) Cut WrongLength b c = absurd (c.2 (b.2 ∙ ap payload_len (tag_apart b.0 c.0 (b.1 ∙ sym c.1))))
same_trouble (tag ∷ high ∷ low ∷ rest) WrongLength Cut b c = absurd (b.2 (c.2 ∙ ap payload_len (tag_apart c.0 b.0 (c.1 ∙ sym b.1))))

pub one_trouble : OneTrouble
one_trouble = record { one = same_trouble; begun = one_record; apart = not_begun }

same_address : (a b : ℕ) → a < 2 ^ 64 → b < 2 ^ 64 → to_be_bytes w64 a ≡ to_be_bytes w64 b → a ≡ b
same_address a b f g e = sym (from_be_bytes-to_be_bytes_8 a f) ∙ ap (from_be_bytes w64) e ∙ from_be_bytes-to_be_bytes_8 b g

same_attributes : (a b : ℕ) → a < 2 ^ 16 → b < 2 ^ 16 → to_be_bytes w16 a ≡ to_be_bytes w16 b → a ≡ b
same_attributes a b f g e = sym (from_be_bytes-to_be_bytes_2 a f) ∙ ap (from_be_bytes w16) e ∙ from_be_bytes-to_be_bytes_2 b g

-- the numbers of a record are determined by its payload
same_record : (r s : Record) → Fits r → Fits s → kind_of r ≡ kind_of s → payload_of r ≡ payload_of s → r ≡ s
same_record (Populate a x) (Populate b y) f g k e =
    let (front, back) = same_parts (to_be_bytes w64 a) (to_be_bytes w64 b) (to_be_bytes w16 x) (to_be_bytes w16 y) refl e in
    ap₂ Populate (same_address a b f.0 g.0 front) (same_attributes x y f.1 g.1 back)
same_record (Release a) (Release b) f g k e = ap Release (same_address a b f g e)
same_record (Protect a x) (Protect b y) f g k e =
    let (front, back) = same_parts (to_be_bytes w64 a) (to_be_bytes w64 b) (to_be_bytes w16 x) (to_be_bytes w16 y) refl e in
    ap₂ Protect (same_address a b f.0 g.0 front) (same_attributes x y f.1 g.1 back)
same_record (Touch a x) (Touch b y) f g k e =
    let (front, back) = same_parts (to_be_bytes w64 a) (to_be_bytes w64 b) (x ∷ []) (y ∷ []) refl e in
    let same : x ≡ y = cc in
    ap₂ Touch (same_address a b f.0 g.0 front) same
same_record (Try a) (Try b) f g k e = ap Try (same_address a b f g e)
same_record Census Census f g k e = refl
same_record r s f g k e = absurd cc

abbrev fault_of : Trouble → ℕ → Fault
fault_of trouble place = record { trouble = trouble; place = place }

same_end : (input : List ℕ) (place : ℕ) (c d : Option Fault) → Ends input place c → Ends input place d → c ≡ d
same_end input place None None x y = refl
same_end input place None (Some g) x y = absurd (subst (λ s. Broken s g.trouble) x y.1)
same_end input place (Some f) None x y = absurd (subst (λ s. Broken s f.trouble) y x.1)
same_end input place (Some f) (Some g) x y =
    let places : f.place ≡ g.place = x.0 ∙ sym y.0 in
    let troubles : f.trouble ≡ g.trouble = same_trouble (drop place input) f.trouble g.trouble x.1 y.1 in
    ap Some (ap₂ fault_of troubles places)

not_ended : (input : List ℕ) (place : ℕ) (d : Option Fault) (k : Kind) (p : List ℕ) → Ends input place d → Begins (drop place input) k p → ⊥
not_ended input place None k p x b =
    let empty : ◌≡◌ {A = List ℕ} [] (tag_of k ∷ 0 ∷ payload_len k ∷ (p ++ drop (3 + length p) (drop place input))) = sym x ∙ b.whole in
    absurd cc
not_ended input place (Some f) k p x b = not_begun (drop place input) f.trouble k p x.1 b

pub one_reading : OneReading
one_reading input place [] [] c d x y = (refl, same_end input place c d x y)
one_reading input place [] (s ∷ ss) c d x y = absurd (not_ended input place c _ _ x y.1)
one_reading input place (r ∷ rs) [] c d x y = absurd (not_ended input place d _ _ y x.1)
one_reading input place (r ∷ rs) (s ∷ ss) c d x y =
    let (kinds, payloads) = one_record (drop place input) _ _ _ _ x.1 y.1 in
    let first : r ≡ s = same_record r s x.0 y.0 kinds payloads in
    let (others, endings) = one_reading input (place + 3 + length (payload_of s)) rs ss c d (subst (λ p. Reading input (place + 3 + length p) rs c) payloads x.2) y.2 in
    (ap₂ ◌∷◌ first others, endings)

pub answers_are_read : AnswersRead
answers_are_read = record {
  none = λ input from to x. x.0;
  fault = λ input from to fault x. (x.0, x.1);
  some = λ input from to part first others ending x r y. (
    r.fits,
    subst₂ (Begins (drop from input)) (sym r.kind) (sym r.payload) x.2,
    subst (λ n. Reading input n others ending) (x.1 ∙ ap (λ p. from + 3 + length p) (sym r.payload)) y,
  );
}

read_spells : (input : List ℕ) (place : ℕ) (rs : List Record) (ending : Option Fault) → Reading input place rs ending → Spells input place rs ending
read_spells input place [] ending x =
    let here : place ≡ place + 0 = omega arith in
    record { whole = ap (λ n. drop n input) here; behind = subst (λ n. Ends input n ending) here x }
read_spells input place (r ∷ rs) ending x =
    let p = payload_of r in
    let own = framed (kind_of r) p in
    let next = place + 3 + length p in
    let others = read_spells input next rs ending x.2 in
    let moved : drop (3 + length p) (drop place input) ≡ drop next input = drop-drop (3 + length p) place input ∙ ap (λ n. drop n input) (omega arith) in
    let there : next + length (spelled rs) ≡ place + length (own ++ spelled rs) = omega (arith, length-append p (spelled rs)) in
    record {
      whole = x.1.whole ∙ ap (λ s. own ++ s) (moved ∙ others.whole) ∙ sym (append_assoc own (spelled rs) _) ∙ ap (λ n. (own ++ spelled rs) ++ drop n input) there;
      behind = subst (λ n. Ends input n ending) there others.behind;
    }

payload_whole : (r : Record) → length (payload_of r) ≡ payload_len (kind_of r)
payload_whole (Populate address attributes) = refl
payload_whole (Release address) = refl
payload_whole (Protect address attributes) = refl
payload_whole (Touch address access) = refl
payload_whole (Try address) = refl
payload_whole Census = refl

spells_read : (input : List ℕ) (place : ℕ) (rs : List Record) (ending : Option Fault) → AllFit rs → Spells input place rs ending → Reading input place rs ending
spells_read input place [] ending f x = subst (λ n. Ends input n ending) (omega arith) x.behind
spells_read input place (r ∷ rs) ending f x =
    let p = payload_of r in
    let own = framed (kind_of r) p in
    let next = place + 3 + length p in
    let rest = spelled rs ++ drop (place + length (own ++ spelled rs)) input in
    let whole : drop place input ≡ own ++ rest = x.whole ∙ append_assoc own (spelled rs) _ in
    let long : 3 + length p ≡ length own = omega arith in
    let moved : drop (3 + length p) (drop place input) ≡ rest = ap₂ drop long whole ∙ drop-append_seam own rest in
    let there : place + length (own ++ spelled rs) ≡ next + length (spelled rs) = omega (arith, length-append p (spelled rs)) in
    let on : drop next input ≡ drop (3 + length p) (drop place input) = ap (λ n. drop n input) (omega arith) ∙ sym (drop-drop (3 + length p) place input) in
    let others : Spells input next rs ending = record {
      whole = on ∙ moved ∙ ap (λ n. spelled rs ++ drop n input) there;
      behind = subst (λ n. Ends input n ending) there x.behind;
    } in
    (f.0, record { long = payload_whole r; whole = whole ∙ ap (λ s. own ++ s) (sym moved) }, spells_read input next rs ending f.1 others)

pub spelled_again : SpelledAgain
spelled_again = record { read = read_spells; written = spells_read }
