-- One turn of load: what is to come, the bytes read so far and the buffer go on to what load comes to as a whole.
use Rattle.std.proofs.Common.{◌≡◌, ℕ, zero, suc, ◌+◌, ◌-◌, ◌<◌, ◌≤◌, List, [], ◌∷◌, ◌++◌, length, take, drop, set, replicate, Some, None, Ok, Err, Option, Result, sym, refl, ap, ◌∙◌, subst, append_assoc, arith}
use Rattle.std.proofs.lemmas.List.{take_more_set, drop-set-lt, drop-drop, length-set, length-take-le, take-append-drop, take-append-le, drop-append-le, append-nil, length-append, length-drop}
use Rattle.source.specs.declared.loader.LoadFault.{LoadFault}
use Rattle.source.specs.declared.loader.LoadFault.TheVariants.{TooLong, Unreadable}
use Rattle.source.specs.Rest.{Rest, byte, end, fault, next_of, after_next, place_of}
use Rattle.source.specs.Load.{bytes_of, broken_off, after_bytes, Loaded, outcome, loaded, room_of}

one_more : (room count : ℕ) → count < room → room - count ≡ suc (room - (count + 1))
one_more room count h = omega arith

no_bytes : (P F : Type 0) → bytes_of {P = P} {F = F} end ≡ []
unfolding bytes_of
no_bytes P F = refl

module _ {P F : Type 0} where
  -- `count` bytes of `start` stand at the front of the buffer, `now` is to come, and the rest of the buffer is as it was
  pub record Underway (room count : ℕ) (start now : Rest P F) (before buffer : List ℕ) : Type 0 where
    pub within : count ≤ room
    pub filled : bytes_of start ≡ take count buffer ++ bytes_of now
    pub untouched : drop count buffer ≡ drop count before
    pub size : length buffer ≡ length before
    pub breaks : broken_off room start ≡ broken_off (room - count) now
    pub left : after_bytes room start ≡ after_bytes (room - count) now

  pub result :
      {a a' : Result ℕ (LoadFault P F)} {m m' : List ℕ} {r r' : Rest P F}
      → a ≡ a'
      → m ≡ m'
      → r ≡ r'
      → ◌≡◌ {A = Loaded P F} (record { answer = a; memory = m; left = r }) (record { answer = a'; memory = m'; left = r' })
  result p q r = cc

  pub begun : (room : ℕ) (start : Rest P F) (buffer : List ℕ) → Underway room 0 start start buffer buffer
  begun room start buffer =
      record {
        within = omega arith;
        filled = refl;
        untouched = refl;
        size = refl;
        breaks = ap (λ (n : ℕ). broken_off n start) (omega arith);
        left = ap (λ (n : ℕ). after_bytes n start) (omega arith);
      }

  fault_told : (r : Rest P F) (f : F) → next_of r ≡ Err f → r ≡ fault f
  fault_told (byte b p r) f h = let z : ◌≡◌ {A = ℕ} 0 1 = cc in absurd (omega arith)
  fault_told end f h = let z : ◌≡◌ {A = ℕ} 0 1 = cc in absurd (omega arith)
  fault_told (fault f') f h = cc

  end_told : (r : Rest P F) → next_of r ≡ Ok None → r ≡ end
  end_told (byte b p r) h = let z : ◌≡◌ {A = ℕ} 0 1 = cc in absurd (omega arith)
  end_told end h = refl
  end_told (fault f) h = let z : ◌≡◌ {A = ℕ} 0 1 = cc in absurd (omega arith)

  -- the byte that `next` answers, with some place
  byte_told : (r : Rest P F) (b : ℕ) → next_of r ≡ Ok (Some b) → (p : P) × (r ≡ byte b p (after_next r))
  byte_told (byte b' p r) b h = (p, let same : b' ≡ b = cc in ap (λ (n : ℕ). byte n p r) same)
  byte_told end b h = let z : ◌≡◌ {A = ℕ} 0 1 = cc in absurd (omega arith)
  byte_told (fault f) b h = let z : ◌≡◌ {A = ℕ} 0 1 = cc in absurd (omega arith)

  -- without a place there is no byte
  pub none_placed : (r : Rest P F) (o : Option ℕ) → place_of r ≡ None → next_of r ≡ Ok o → next_of r ≡ Ok None
  none_placed (byte b p r) o h k = let z : ◌≡◌ {A = ℕ} 0 1 = cc in absurd (omega arith)
  none_placed end o h k = refl
  none_placed (fault f) o h k = let z : ◌≡◌ {A = ℕ} 0 1 = cc in absurd (omega arith)

  breaks_on : (n : ℕ) (b : ℕ) (p : P) (r : Rest P F) → broken_off (suc n) (byte b p r) ≡ broken_off n r
  unfolding broken_off
  breaks_on n b p r = refl

  left_on : (n : ℕ) (b : ℕ) (p : P) (r : Rest P F) → after_bytes (suc n) (byte b p r) ≡ after_bytes n r
  unfolding after_bytes
  left_on n b p r = refl

  bytes_on : (b : ℕ) (p : P) (r : Rest P F) → bytes_of (byte b p r) ≡ b ∷ bytes_of r
  unfolding bytes_of
  bytes_on b p r = refl

  pub copied-one :
      {room count : ℕ} {start now : Rest P F} {before buffer : List ℕ} (b : ℕ)
      → Underway room count start now before buffer
      → count < room
      → count < length buffer
      → next_of now ≡ Ok (Some b)
      → Underway room (count + 1) start (after_next now) before (set buffer count b)
  copied-one {room} {count} {start} {now} {before} {buffer} b u h k told =
      let found = byte_told now b told in
      let rest = after_next now in
      let is : now ≡ byte b found.0 rest = found.1 in
      let front : take (count + 1) (set buffer count b) ≡ take count buffer ++ b ∷ [] = take_more_set buffer count b k in
      record {
        within = omega arith;
        filled =
            u.filled
            ∙ ap (λ (r : Rest P F). take count buffer ++ bytes_of r) is
            ∙ ap (λ (l : List ℕ). take count buffer ++ l) (bytes_on b found.0 rest)
            ∙ sym (append_assoc (take count buffer) (b ∷ []) (bytes_of rest))
            ∙ ap (λ (l : List ℕ). l ++ bytes_of rest) (sym front);
        untouched =
            drop-set-lt (count + 1) buffer count b (omega arith)
            ∙ sym (drop-drop 1 count buffer)
            ∙ ap (λ (l : List ℕ). drop 1 l) u.untouched
            ∙ drop-drop 1 count before;
        size = length-set buffer count b ∙ u.size;
        breaks =
            u.breaks
            ∙ ap (λ (r : Rest P F). broken_off (room - count) r) is
            ∙ ap (λ (n : ℕ). broken_off n (byte b found.0 rest)) (one_more room count h)
            ∙ breaks_on (room - (count + 1)) b found.0 rest;
        left =
            u.left
            ∙ ap (λ (r : Rest P F). after_bytes (room - count) r) is
            ∙ ap (λ (n : ℕ). after_bytes n (byte b found.0 rest)) (one_more room count h)
            ∙ left_on (room - (count + 1)) b found.0 rest;
      }

  pub moved :
      {room count : ℕ} {start now later : Rest P F} {before buffer : List ℕ}
      → now ≡ later
      → Underway room count start now before buffer
      → Underway room count start later before buffer
  moved {room} {count} {start} {now} {later} {before} {buffer} e u = subst (λ (r : Rest P F). Underway room count start r before buffer) e u

  -- the front of the buffer is worked on alone
  pub widened :
      {room count : ℕ} {start now : Rest P F} {before buffer : List ℕ}
      → room ≤ length before
      → Underway room count start now (take room before) buffer
      → Underway room count start now before (buffer ++ drop room before)
  widened {room} {count} {start} {now} {before} {buffer} small u =
      let front : length (take room before) ≡ room = length-take-le room before small in
      let inside : count ≤ length buffer = omega (arith, u.within, u.size, front) in
      record {
        within = u.within;
        filled = u.filled ∙ ap (λ (l : List ℕ). l ++ bytes_of now) (sym (take-append-le count buffer (drop room before) inside));
        untouched =
            drop-append-le count buffer (drop room before) inside
            ∙ ap (λ (l : List ℕ). l ++ drop room before) u.untouched
            ∙ sym (drop-append-le count (take room before) (drop room before) (omega (arith, u.within, front)))
            ∙ ap (λ (l : List ℕ). drop count l) (take-append-drop room before);
        size = omega (arith, length-append buffer (drop room before), length-drop room before, u.size, front);
        breaks = u.breaks;
        left = u.left;
      }

  breaks_at_fault : (n : ℕ) (f : F) → broken_off {P = P} n (fault f) ≡ Some (Unreadable f)
  unfolding broken_off
  breaks_at_fault zero f = refl
  breaks_at_fault (suc n) f = refl

  breaks_not : (n : ℕ) → broken_off {P = P} {F = F} n end ≡ None
  unfolding broken_off
  breaks_not zero = refl
  breaks_not (suc n) = refl

  left_at_fault : (n : ℕ) (f : F) → after_bytes {P = P} n (fault f) ≡ fault f
  unfolding after_bytes
  left_at_fault zero f = refl
  left_at_fault (suc n) f = refl

  left_at_end : (n : ℕ) → after_bytes {P = P} {F = F} n end ≡ end
  unfolding after_bytes
  left_at_end zero = refl
  left_at_end (suc n) = refl

  breaks_when_full : (b : ℕ) (p : P) (r : Rest P F) → broken_off 0 (byte b p r) ≡ Some (TooLong p)
  unfolding broken_off
  breaks_when_full b p r = refl

  left_when_full : (b : ℕ) (p : P) (r : Rest P F) → after_bytes 0 (byte b p r) ≡ byte b p r
  unfolding after_bytes
  left_when_full b p r = refl

  breaks_at_place : (r : Rest P F) (p : P) → place_of r ≡ Some p → (broken_off 0 r ≡ Some (TooLong p)) × (after_bytes 0 r ≡ r)
  breaks_at_place (byte b p' r) p h =
      (breaks_when_full b p' r ∙ (let same : p' ≡ p = cc in ap (λ (q : P). Some (TooLong q)) same), left_when_full b p' r)
  breaks_at_place end p h = let z : ◌≡◌ {A = ℕ} 0 1 = cc in absurd (omega arith)
  breaks_at_place (fault f) p h = let z : ◌≡◌ {A = ℕ} 0 1 = cc in absurd (omega arith)

  broken-off :
      (start left : Rest P F) (before : List ℕ) (e : LoadFault P F)
      → broken_off (room_of before) start ≡ Some e
      → after_bytes (room_of before) start ≡ left
      → loaded start before ≡ record { answer = Err e; memory = replicate (length before) 0; left = left }
  broken-off start left before e h k =
      ap (λ (o : Option (LoadFault P F)). outcome o (bytes_of start) before (after_bytes (room_of before) start)) h ∙ result refl refl k

  -- ## What load comes to at each of its exits

  pub fault-met :
      {room count : ℕ} {start now : Rest P F} {before buffer : List ℕ} (f : F)
      → Underway room count start now before buffer
      → room ≡ room_of before
      → next_of now ≡ Err f
      → loaded start before ≡ record { answer = Err (Unreadable f); memory = replicate (length buffer) 0; left = after_next now }
  fault-met {room} {count} {start} {now} {before} {buffer} f u e told =
      let is = fault_told now f told in
      broken-off start (after_next now) before (Unreadable f)
      (ap (λ (n : ℕ). broken_off n start) (sym e) ∙ u.breaks ∙ ap (λ (r : Rest P F). broken_off (room - count) r) is ∙ breaks_at_fault (room - count) f)
      (ap (λ (n : ℕ). after_bytes n start) (sym e) ∙ u.left ∙ ap (λ (r : Rest P F). after_bytes (room - count) r) is ∙ left_at_fault (room - count) f ∙ sym (ap after_next is))
      ∙ result refl (ap (λ (n : ℕ). replicate n 0) (sym u.size)) refl

  pub too_long :
      {room count : ℕ} {start now : Rest P F} {before buffer : List ℕ} (p : P)
      → Underway room count start now before buffer
      → room ≡ room_of before
      → room ≤ count
      → place_of now ≡ Some p
      → loaded start before ≡ record { answer = Err (TooLong p); memory = replicate (length buffer) 0; left = now }
  too_long {room} {count} {start} {now} {before} {buffer} p u e full told =
      let none : room - count ≡ 0 = omega arith in
      let found = breaks_at_place now p told in
      broken-off start now before (TooLong p)
      (ap (λ (n : ℕ). broken_off n start) (sym e) ∙ u.breaks ∙ ap (λ (n : ℕ). broken_off n now) none ∙ found.0)
      (ap (λ (n : ℕ). after_bytes n start) (sym e) ∙ u.left ∙ ap (λ (n : ℕ). after_bytes n now) none ∙ found.1)
      ∙ result refl (ap (λ (n : ℕ). replicate n 0) (sym u.size)) refl

  pub all-copied :
      {room count : ℕ} {start now : Rest P F} {before buffer : List ℕ}
      → Underway room count start now before buffer
      → room ≡ room_of before
      → room ≤ length before
      → next_of now ≡ Ok None
      → loaded start before ≡ record { answer = Ok count; memory = buffer; left = after_next now }
  all-copied {room} {count} {start} {now} {before} {buffer} u e small told =
      let is = end_told now told in
      let bytes : bytes_of start ≡ take count buffer =
      u.filled ∙ ap (λ (r : Rest P F). take count buffer ++ bytes_of r) is ∙ ap (λ (l : List ℕ). take count buffer ++ l) (no_bytes P F) ∙ append-nil (take count buffer)
      in
      let size : length (take count buffer) ≡ count = length-take-le count buffer (omega arith) in
      ap (λ (o : Option (LoadFault P F)). outcome o (bytes_of start) before (after_bytes (room_of before) start))
      (ap (λ (n : ℕ). broken_off n start) (sym e) ∙ u.breaks ∙ ap (λ (r : Rest P F). broken_off (room - count) r) is ∙ breaks_not (room - count))
      ∙ result
      (ap Ok (ap length bytes ∙ size))
      (ap (λ (l : List ℕ). l ++ drop (length l) before) bytes
      ∙ ap (λ (n : ℕ). take count buffer ++ drop n before) size
      ∙ ap (λ (l : List ℕ). take count buffer ++ l) (sym u.untouched)
      ∙ take-append-drop count buffer)
      (ap (λ (n : ℕ). after_bytes n start) (sym e) ∙ u.left ∙ ap (λ (r : Rest P F). after_bytes (room - count) r) is ∙ left_at_end (room - count) ∙ sym (ap after_next is))

  -- ## The parts of what load comes to

  pub parts :
      {l : Loaded P F} {a : Result ℕ (LoadFault P F)} {m : List ℕ} {r : Rest P F}
      → l ≡ record { answer = a; memory = m; left = r }
      → (a ≡ l.answer) × (m ≡ l.memory) × (r ≡ l.left)
  parts e = rw e (refl, refl, refl)

  pub joined :
      (l : Loaded P F) {a : Result ℕ (LoadFault P F)} {m : List ℕ} {r : Rest P F}
      → a ≡ l.answer
      → m ≡ l.memory
      → r ≡ l.left
      → l ≡ record { answer = a; memory = m; left = r }
  joined l p q r = result (sym p) (sym q) (sym r)

  pub zeroed :
      (start : Rest P F) (before : List ℕ) (e : LoadFault P F)
      → Err e ≡ (loaded start before).answer
      → replicate (length before) 0 ≡ (loaded start before).memory
  zeroed start before e h = go (broken_off (room_of before) start) h
    where
      go :
          (o : Option (LoadFault P F))
          → Err e ≡ (outcome o (bytes_of start) before (after_bytes (room_of before) start)).answer
          → replicate (length before) 0 ≡ (outcome o (bytes_of start) before (after_bytes (room_of before) start)).memory
      go None k = let z : ◌≡◌ {A = ℕ} 0 1 = cc in absurd (omega arith)
      go (Some x) k = refl
