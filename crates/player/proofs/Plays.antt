-- Plays that are one record longer, and how a play ends.
use Rattle.std.proofs.Common.{◌≡◌, ℕ, ◌+◌, ◌≤◌, List, [], ◌∷◌, ◌++◌, length, min, take, drop, ⊎_elim, Some, None, refl, sym, ap, ap₂, ◌∙◌, subst, arith, append_assoc, append-nil, take-append-drop, length-take}
use Rattle.std.specs.Prelude.{Option, Ok, Err, IfSome}
use Rattle.std.specs.Option.{option_map}
use Rattle.std.specs.Io.KnownBytes.{Appends}
use Rattle.std.proofs.lemmas.Bool.{cases_lt}
use Rattle.std.proofs.KnownBytes.{Appends-trans, Appends-nil}
use Rattle.std.proofs.Math.Seq.{take-add, take-append-add, take_all, take-length, drop-length, take_at}
use Rattle.tlb.specs.declared.tlb.Tlb as tlb
use Rattle.frames.specs.declared.allocator.FrameAllocator as allocator
use Rattle.law.specs.declared.calls.Event.{Event}
use Rattle.law.specs.Law.{Accounted}
use Rattle.law.specs.PageMap.{nothing}
use Rattle.law.specs.Runs.{Obeys}
use Rattle.space.specs.declared.space.Space.{Space}
use Rattle.space.specs.Space.{seen, page_map, tlb_of, frames_of}
use Rattle.space.proofs.Runs.{Runs, runs_none, runs_more, obeys}
use Rattle.trace_format.specs.declared.fault.Fault.{Fault}
use Rattle.trace_format.specs.declared.line.Line.{Line}
use Rattle.trace_format.specs.declared.line.Line.TheVariants.{Faulted}
use Rattle.trace_format.specs.declared.reader.Part.{Part}
use Rattle.trace_format.specs.declared.record.Record.{Record}
use Rattle.trace_format.specs.Bytes.{AllFit, Fits, kind_of, payload_of, framed, spelled}
use Rattle.trace_format.specs.Lines.{text_of}
use Rattle.trace_format.specs.Records.{IsRecordOf, Reads, Ends, Reading}
use Rattle.trace_format.proofs.Readings.{spelled_again}
use Rattle.player.specs.Play.{Tells, text_of_all, last_line, Plays, WritesPlay, WritesFront}
use Rattle.player.specs.Play.Tells.{none, further}
use Rattle.player.specs.Sent.{AppendsFront}
use Rattle.player.specs.Steps.{Leads, Steps}

fit_more : (rs : List Record) (r : Record) → AllFit rs → Fits r → AllFit (rs ++ r ∷ [])
fit_more [] r a f = (f, tt)
fit_more (x ∷ rs) r (h, a) f = (h, fit_more rs r a f)

spelled_more : (rs : List Record) (r : Record) → spelled (rs ++ r ∷ []) ≡ spelled rs ++ framed (kind_of r) (payload_of r)
spelled_more [] r = append-nil (framed (kind_of r) (payload_of r))
spelled_more (x ∷ rs) r =
    ap (λ bytes. framed (kind_of x) (payload_of x) ++ bytes) (spelled_more rs r) ∙ sym (append_assoc (framed (kind_of x) (payload_of x)) (spelled rs) (framed (kind_of r) (payload_of r)))

text_more : (ls : List Line) (l : Line) → text_of_all (ls ++ l ∷ []) ≡ text_of_all ls ++ text_of l
text_more [] l = append-nil (text_of l)
text_more (x ∷ ls) l = ap (λ bytes. text_of x ++ bytes) (text_more ls l) ∙ sym (append_assoc (text_of x) (text_of_all ls) (text_of l))

-- a front of the last line was written
front_more : (a b c : Option (List ℕ)) (ls : List Line) (l : Line) (n : ℕ) → Appends a b (text_of_all ls) → Appends b c (take n (text_of l))
    → Appends a c (take (length (text_of_all ls) + n) (text_of_all (ls ++ l ∷ [])))
front_more a b c ls l n p q =
    subst (Appends a c) (sym (ap (take (length (text_of_all ls) + n)) (text_more ls l) ∙ take-append-add (text_of_all ls) (text_of l) n))
    (Appends-trans a b c (text_of_all ls) (take n (text_of l)) p q)

-- the bytes up to the place behind a record
read_more : (input : List ℕ) (place to : ℕ) (part : Part) → Reads input place (Ok (Some part)) to → take to input ≡ take place input ++ framed part.kind part.payload.now
read_more input place to part h =
    let n : to ≡ place + (3 + length part.payload.now) = omega (arith, h.1) in
    let f : take (3 + length part.payload.now) (drop place input) ≡ framed part.kind part.payload.now =
    ap (take (3 + length part.payload.now)) h.2.whole ∙ take_at (framed part.kind part.payload.now) _ _ (omega arith) in
    ap (λ i. take i input) n ∙ take-add place (3 + length part.payload.now) input ∙ ap (λ bytes. take place input ++ bytes) f

-- records that are spelled in front of a place are a reading, with what stands there
reading_of : (input : List ℕ) (place : ℕ) (rs : List Record) (ending : Option Fault) → AllFit rs → take place input ≡ spelled rs → place ≤ length input → Ends input place ending → Reading input 0 rs ending
reading_of input place rs ending fit spells w ends =
    let m : length (spelled rs) ≡ place = ap length (sym spells) ∙ length-take place input ∙ omega arith in
    let n : 0 + length (spelled rs) ≡ place = omega (arith, m) in
    spelled_again.written input 0 rs ending fit record {
      whole = sym (take-append-drop place input) ∙ ap₂ (λ a b. a ++ b) spells (ap (λ i. drop i input) (sym n));
      behind = subst (λ i. Ends input i ending) (sym n) ends;
    }

module _ {A B : Type 0} {t : tlb.Ghosts A} {k : allocator.Ghosts B} where
  runs_on : (s v u : Space A B t k) (es fs : List Event) → Runs s es v → Leads v fs u → Runs s (es ++ fs) u
  runs_on s v u es [] r same = subst (λ x. Runs s x u) (sym (append-nil es)) (subst (λ w. Runs s es w) (sym same) r)
  runs_on s v u es (f ∷ fs) r (w, law, rest) = subst (λ x. Runs s x u) (append_assoc es (f ∷ []) fs) (runs_on s w u (es ++ f ∷ []) fs (runs_more s v w es f r law) rest)

  -- events from a new space on are a run of the law
  pub of_new : (given : A) (frames : B) (start : Space A B t k) → page_map start ≡ nothing → t.meaning.flushed given (tlb_of start) → frames_of start ≡ frames
      → Accounted k.meaning frames (page_map start) (frames_of start) → (es : List Event) (u : Space A B t k) → Runs start es u → Obeys t.meaning k.meaning given frames es (seen u)
  of_new given frames start new flushed same at_start es u r = obeys given frames start u es new flushed same at_start r

  -- the records that these bytes are were carried out from one space on, and have these lines
  pub record Played (start : Space A B t k) (bytes : List ℕ) (space : Space A B t k) (lines : List Line) : Type 0 where
    pub records : List Record
    pub fit : AllFit records
    pub spells : bytes ≡ spelled records
    pub events : List Event
    pub tells : Tells records events lines
    pub runs : Runs start events space

  -- so were the records in front of the place, and their lines were written
  pub record Sofar (start : Space A B t k) (input seen : List ℕ) (place : ℕ) (space : Space A B t k) (old new : Option (List ℕ)) : Type 0 where
    pub same : seen ≡ input
    pub lines : List Line
    pub played : Played start (take place input) space lines
    pub appends : Appends old new (text_of_all lines)

  -- nothing was read yet
  pub sofar_none : (start : Space A B t k) (input : List ℕ) (o : Option (List ℕ)) → Sofar start input input 0 start o o
  sofar_none start input o = record {
    same = refl;
    lines = [];
    played = record { records = []; fit = tt; spells = refl; events = []; tells = none; runs = runs_none start };
    appends = Appends-nil o;
  }

  played_more : (start s u : Space A B t k) (bytes : List ℕ) (ls : List Line) (part : Part) (r : Record) (l : Line) → Played start bytes s ls → IsRecordOf part r → Steps s r l u
      → Played start (bytes ++ framed part.kind part.payload.now) u (ls ++ l ∷ [])
  played_more start s u bytes ls part r l p of_part done = record {
    records = p.records ++ r ∷ [];
    fit = fit_more p.records r p.fit of_part.fits;
    spells = ap₂ (λ a b. a ++ b) p.spells (ap₂ framed (sym of_part.kind) (sym of_part.payload)) ∙ sym (spelled_more p.records r);
    events = p.events ++ done.events;
    tells = further p.tells done.asks;
    runs = runs_on start s u p.events done.events p.runs done.leads;
  }

  -- one record more
  read_played : (start s u : Space A B t k) (input seen' : List ℕ) (place to : ℕ) (ls : List Line) (part : Part) (r : Record) (l : Line) → Played start (take place input) s ls
      → seen' ≡ input → Reads seen' place (Ok (Some part)) to → IsRecordOf part r → Steps s r l u → Played start (take to input) u (ls ++ l ∷ [])
  read_played start s u input seen' place to ls part r l p same reads of_part done =
      subst (λ x. Played start x u (ls ++ l ∷ [])) (sym (read_more input place to part (subst (λ x. Reads x place (Ok (Some part)) to) same reads)))
      (played_more start s u (take place input) ls part r l p of_part done)

  pub sofar_more : (start s u : Space A B t k) (input seen' after' : List ℕ) (place to : ℕ) (part : Part) (r : Record) (l : Line) (old mid new : Option (List ℕ))
      → Sofar start input seen' place s old mid → Reads seen' place (Ok (Some part)) to → after' ≡ seen' → IsRecordOf part r → Steps s r l u → Appends mid new (text_of l)
      → Sofar start input after' to u old new
  sofar_more start s u input seen' after' place to part r l old mid new i reads kept of_part done sent = record {
    same = kept ∙ i.same;
    lines = i.lines ++ l ∷ [];
    played = read_played start s u input seen' place to i.lines part r l i.played i.same reads of_part done;
    appends = subst (Appends old new) (sym (text_more i.lines l)) (Appends-trans old mid new (text_of_all i.lines) (text_of l) i.appends sent);
  }

  module _ (tlb : A) (frames : B) (start : Space A B t k) (law : (es : List Event) (u : Space A B t k) → Runs start es u → Obeys t.meaning k.meaning tlb frames es (seen u)) where
    plays : (input : List ℕ) (place : ℕ) (s : Space A B t k) (ls : List Line) (ending : Option Fault) → Played start (take place input) s ls → place ≤ length input → Ends input place ending
        → Plays t.meaning k.meaning tlb frames input (text_of_all (ls ++ last_line ending))
    plays input place s ls ending p w ends = record {
      records = p.records;
      ending = ending;
      reading = reading_of input place p.records ending p.fit p.spells w ends;
      events = p.events;
      lines = ls;
      tells = p.tells;
      last = seen s;
      law = law p.events s p.runs;
      whole = refl;
    }

    -- the end of the trace
    pub sofar_over : (input seen' : List ℕ) (place to : ℕ) (s : Space A B t k) (old new : Option (List ℕ)) → Sofar start input seen' place s old new → place ≤ length seen' → Reads seen' place (Ok None) to
        → WritesPlay t.meaning k.meaning tlb frames input old new
    sofar_over input seen' place to s old new i w reads = (
      text_of_all (i.lines ++ []),
      plays input place s i.lines None i.played (subst (λ x. place ≤ length x) i.same w) (subst (λ x. drop place x ≡ []) i.same reads.0),
      subst (λ ls. Appends old new (text_of_all ls)) (sym (append-nil i.lines)) i.appends,
    )

    fault_plays : (input seen' : List ℕ) (place to : ℕ) (s : Space A B t k) (f : Fault) (old mid : Option (List ℕ)) (i : Sofar start input seen' place s old mid) → place ≤ length seen' → Reads seen' place (Err f) to
        → Plays t.meaning k.meaning tlb frames input (text_of_all (i.lines ++ Faulted f.trouble f.place ∷ []))
    fault_plays input seen' place to s f old mid i w reads =
        plays input place s i.lines (Some f) i.played (subst (λ x. place ≤ length x) i.same w) (subst (λ x. Ends x place (Some f)) i.same (reads.0, reads.1))

    -- a fault
    pub sofar_fault : (input seen' : List ℕ) (place to : ℕ) (s : Space A B t k) (f : Fault) (old mid new : Option (List ℕ)) → Sofar start input seen' place s old mid → place ≤ length seen' → Reads seen' place (Err f) to
        → Appends mid new (text_of (Faulted f.trouble f.place)) → WritesPlay t.meaning k.meaning tlb frames input old new
    sofar_fault input seen' place to s f old mid new i w reads sent = (
      text_of_all (i.lines ++ Faulted f.trouble f.place ∷ []),
      fault_plays input seen' place to s f old mid i w reads,
      subst (Appends old new) (sym (text_more i.lines (Faulted f.trouble f.place))) (Appends-trans old mid new _ _ i.appends sent),
    )

    -- whose line was not written whole
    pub sofar_fault_cut : (input seen' : List ℕ) (place to : ℕ) (s : Space A B t k) (f : Fault) (old mid new : Option (List ℕ)) → Sofar start input seen' place s old mid → place ≤ length seen' → Reads seen' place (Err f) to
        → AppendsFront mid new (text_of (Faulted f.trouble f.place)) → WritesFront t.meaning k.meaning tlb frames input old new
    sofar_fault_cut input seen' place to s f old mid new i w reads (n, sent) = record {
      front = length input;
      written = text_of_all (i.lines ++ Faulted f.trouble f.place ∷ []);
      plays = subst (λ x. Plays t.meaning k.meaning tlb frames x (text_of_all (i.lines ++ Faulted f.trouble f.place ∷ []))) (sym (take-length input)) (fault_plays input seen' place to s f old mid i w reads);
      many = length (text_of_all i.lines) + n;
      appends = front_more old mid new i.lines (Faulted f.trouble f.place) n i.appends sent;
    }

    -- a line that was not written whole
    pub sofar_cut : (input seen' : List ℕ) (place to : ℕ) (s u : Space A B t k) (part : Part) (r : Record) (l : Line) (old mid new : Option (List ℕ))
        → Sofar start input seen' place s old mid → Reads seen' place (Ok (Some part)) to → IsRecordOf part r → Steps s r l u → AppendsFront mid new (text_of l)
        → WritesFront t.meaning k.meaning tlb frames input old new
    sofar_cut input seen' place to s u part r l old mid new i reads of_part done (n, sent) =
        let bytes = take to input in
        let played = read_played start s u input seen' place to i.lines part r l i.played i.same reads of_part done in
        let p = plays bytes (length bytes) u (i.lines ++ l ∷ []) None (subst (λ x. Played start x u (i.lines ++ l ∷ [])) (sym (take-length bytes)) played) (omega arith) (drop-length bytes) in
        record {
          front = to;
          written = text_of_all (i.lines ++ l ∷ []);
          plays = subst (λ ls. Plays t.meaning k.meaning tlb frames bytes (text_of_all ls)) (append-nil (i.lines ++ l ∷ [])) p;
          many = length (text_of_all i.lines) + n;
          appends = front_more old mid new i.lines l n i.appends sent;
        }

-- the bytes that are played
at_most : (xs : List ℕ) → take (min (length xs) 65536) xs ≡ take 65536 xs
at_most xs = ⊎_elim
    (λ h. let n : min (length xs) 65536 ≡ length xs = omega arith in ap (λ i. take i xs) n ∙ take-length xs ∙ sym (take_all 65536 xs (omega arith)))
    (λ h. let n : min (length xs) 65536 ≡ 65536 = omega arith in ap (λ i. take i xs) n)
    (cases_lt (length xs) 65536)

pub first : (xs shown : List ℕ) (n : ℕ) → shown ≡ take n xs → n ≡ min (length xs) 65536 → shown ≡ take 65536 xs
first xs shown n e m = e ∙ ap (λ i. take i xs) m ∙ at_most xs

-- what holds of the bytes that were read holds of the first bytes that there were
pub read_whole : (known : Option (List ℕ)) (bytes shown : List ℕ) (P : List ℕ → Type 0) → IfSome known (λ xs. bytes ≡ take 65536 xs) → shown ≡ bytes → P (take 65536 shown) → IfSome known (λ xs. P (take 65536 xs))
read_whole None bytes shown P h e p = tt
read_whole (Some xs) bytes shown P h e p = subst P (ap (take 65536) (e ∙ h) ∙ take_all 65536 (take 65536 xs) (omega (arith, length-take 65536 xs))) p

pub some_any : (known : Option (List ℕ)) (P : List ℕ → Type 0) → ((xs : List ℕ) → P xs) → IfSome known P
some_any None P f = tt
some_any (Some xs) P f = f xs

-- what a reader of at most 65,536 bytes gave
pub first_of : (known : Option (List ℕ)) (bytes old : List ℕ) → IfSome (option_map (take 65536) known) (λ xs. bytes ≡ old ++ xs) → old ≡ [] → IfSome known (λ xs. bytes ≡ take 65536 xs)
first_of None bytes old h e = tt
first_of (Some xs) bytes old h e = h ∙ ap (λ l. l ++ take 65536 xs) e
