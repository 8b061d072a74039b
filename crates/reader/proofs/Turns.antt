-- What one turn of each loop adds to the lists that were read.
use Rattle.std.proofs.Common.{◌≡◌, ℕ, zero, suc, ◌+◌, ◌*◌, ◌/◌, ◌^◌, ◌<◌, ◌≤◌, Bool, true, false, cond, leb, List, [], ◌∷◌, ◌++◌, map, length, get_or, take, drop, set, sym, refl, ap, ◌∙◌, subst, arith, add-one}
use Rattle.std.proofs.lemmas.List.{take_more_set, map_push, length-take-le, length-map, get_or-map, get_or-take, get_or-drop, drop-drop}
use Rattle.std.proofs.ByRecursion.{All-push, All-weaker, All-get_or}
use Rattle.std.specs.List.{AllByRecursion}
use Rattle.std.specs.Simd.{first_chunks}
use Rattle.bytecode.specs.Outcome.{good, bad, bind, Fault}
use Rattle.reader.specs.Fields.{four, bytes_at}
use Rattle.reader.specs.Layout as layout
use Rattle.reader.specs.Layout.{integer_at, code_bytes}
use Rattle.reader.specs.Entries.{integer_of, function_entry_of, FunctionBehind}
use Rattle.reader.specs.declared.package.FunctionEntry.{FunctionEntry}
use Rattle.reader.specs.declared.package.Function.{Function}
use Rattle.reader.specs.declared.package.Native.{Native}
use lib.Seq.{map-set_same}

-- what is read from the same bytes is the same
pub read_same : {A : Type 0} (read : List ℕ → A) (bs cs : List ℕ) (o : A) → cs ≡ bs → read cs ≡ o → read bs ≡ o
read_same read bs cs o e h = sym (ap read e) ∙ h

-- ## An array that is filled from the front, by what its elements stand for

pub filled_more : {X Y : Type 0} (f : X → Y) (xs : List X) (i : ℕ) (x : X) → i < length xs → map f (take i xs) ++ f x ∷ [] ≡ map f (take (i + 1) (set xs i x))
filled_more f xs i x l = sym (map_push f (take i xs) x) ∙ ap (map f) (sym (take_more_set xs i x l))

pub entered_more : {X Y Z : Type 0} (g : Y → Z) (f : X → Y) (xs : List X) (i : ℕ) (x : X) → i < length xs →
    map g (map f (take i xs)) ++ g (f x) ∷ [] ≡ map g (map f (take (i + 1) (set xs i x)))
entered_more g f xs i x l = sym (map_push g (map f (take i xs)) (f x)) ∙ ap (map g) (filled_more f xs i x l)

pub filled_all : {X : Type 0} (P : X → Type 0) (xs : List X) (i : ℕ) (x : X) → i < length xs → AllByRecursion P (take i xs) → P x →
    AllByRecursion P (take (i + 1) (set xs i x))
filled_all P xs i x l h k = subst (AllByRecursion P) (sym (take_more_set xs i x l)) (All-push P (take i xs) x h k)

pub entered_all : {X Y : Type 0} (f : X → Y) (P : Y → Type 0) (xs : List X) (i : ℕ) (x : X) → i < length xs → AllByRecursion P (map f (take i xs)) → P (f x) →
    AllByRecursion P (map f (take (i + 1) (set xs i x)))
entered_all f P xs i x l h k = subst (AllByRecursion P) (filled_more f xs i x l) (All-push P (map f (take i xs)) (f x) h k)

-- the first of them
first_push : {X : Type 0} (P : X → Type 0) (xs : List X) (x d : X) → ((d : X) → 0 < length xs → P (get_or xs 0 d)) → (length xs ≡ 0 → P x) → P (get_or (xs ++ x ∷ []) 0 d)
first_push P [] x d h k = k refl
first_push P (y ∷ xs) x d h k = h d (omega arith)

pub filled_first : {X : Type 0} (P : X → Type 0) (xs : List X) (i : ℕ) (x : X) → i < length xs → ((d : X) → 0 < length (take i xs) → P (get_or (take i xs) 0 d)) → (i ≡ 0 → P x) →
    (d : X) → 0 < length (take (i + 1) (set xs i x)) → P (get_or (take (i + 1) (set xs i x)) 0 d)
filled_first P xs i x l h k d _ =
    let n : length (take i xs) ≡ i = length-take-le i xs (omega arith) in
    subst (λ ys. P (get_or ys 0 d)) (sym (take_more_set xs i x l)) (first_push P (take i xs) x d h (λ z. k (sym n ∙ z)))

pub entered_first : {X Y : Type 0} (f : X → Y) (P : Y → Type 0) (xs : List X) (i : ℕ) (x : X) → i < length xs →
    ((d : Y) → 0 < length (map f (take i xs)) → P (get_or (map f (take i xs)) 0 d)) → (i ≡ 0 → P (f x)) →
    (d : Y) → 0 < length (map f (take (i + 1) (set xs i x))) → P (get_or (map f (take (i + 1) (set xs i x))) 0 d)
entered_first f P xs i x l h k d _ =
    let n : length (map f (take i xs)) ≡ i = length-map (take i xs) f ∙ length-take-le i xs (omega arith) in
    subst (λ ys. P (get_or ys 0 d)) (filled_more f xs i x l) (first_push P (map f (take i xs)) (f x) d h (λ z. k (sym n ∙ z)))

-- ## Integers

-- four bytes that stand there are an integer; where they are cut, so is the integer
cond_found : {A B : Type 0} (b : Bool) (x a : A) (y : B) (e : Fault) → cond b (good x) (bad e) ≡ good a → cond b (good y) (bad e) ≡ good y
cond_found true x a y e h = refl
cond_found false x a y e h = let z : ◌≡◌ {A = ℕ} 0 1 = cc in absurd (omega arith)

cond_cut : {A B : Type 0} (b : Bool) (x : A) (y : B) (e f : Fault) → cond b (good x) (bad e) ≡ bad f → cond b (good y) (bad e) ≡ bad f
cond_cut true x y e f h = let z : ◌≡◌ {A = ℕ} 0 1 = cc in absurd (omega arith)
cond_cut false x y e f h = cc

pub integer_found : (bs : List ℕ) (p q : ℕ) (xs : List ℕ) → q ≡ p + 4 → bytes_at bs p 4 ≡ good xs → integer_at bs p ≡ good (record { value = four bs p; after = q })
integer_found bs p q xs w e =
    ap (λ o. bind o (λ x. good (record { value = x; after = p + 4 }))) (cond_found (leb (p + 4) (length bs)) (take 4 (drop p bs)) xs (four bs p) (10, 0, p) e) ∙
    ap (λ q. good (record { value = four bs p; after = q })) (sym w)

pub integer_cut : (bs : List ℕ) (p : ℕ) (f : Fault) → bytes_at bs p 4 ≡ bad f → integer_at bs p ≡ bad f
integer_cut bs p f e =
    ap (λ o. bind o (λ x. good (record { value = x; after = p + 4 }))) (cond_cut (leb (p + 4) (length bs)) (take 4 (drop p bs)) (four bs p) (10, 0, p) f e)

chunks_push : (i : ℕ) (xs : List ℕ) → first_chunks 4 (suc i) xs ≡ first_chunks 4 i xs ++ take 4 (drop (4 * i) xs) ∷ []
chunks_push zero xs = refl
chunks_push (suc i) xs =
    let e : 4 + 4 * i ≡ 4 * suc i = omega arith in
    let d : drop (4 * i) (drop 4 xs) ≡ drop (4 * suc i) xs = drop-drop (4 * i) 4 xs ∙ ap (λ n. drop n xs) e in
    ap (λ ys. take 4 xs ∷ ys) (chunks_push i (drop 4 xs)) ∙ ap (λ ys. take 4 xs ∷ (first_chunks 4 i (drop 4 xs) ++ take 4 ys ∷ [])) d

taken_byte : (bs : List ℕ) (q k : ℕ) → k < 4 → get_or (take 4 (drop q bs)) k 0 ≡ get_or bs (q + k) 0
taken_byte bs q k l = get_or-take 4 (drop q bs) k 0 l ∙ get_or-drop q bs k 0

taken_four : (bs : List ℕ) (q : ℕ) → four (take 4 (drop q bs)) 0 ≡ four bs q
taken_four bs q =
    let a : get_or (take 4 (drop q bs)) 0 0 ≡ get_or bs q 0 = taken_byte bs q 0 (omega arith) ∙ ap (λ p. get_or bs p 0) (let e : q + 0 ≡ q = omega arith in e) in
    let b = taken_byte bs q 1 (omega arith) in
    let c = taken_byte bs q 2 (omega arith) in
    let d : get_or (take 4 (drop q bs)) 3 0 ≡ get_or bs (q + 2 + 1) 0 = taken_byte bs q 3 (omega arith) ∙ ap (λ p. get_or bs p 0) (let e : q + 3 ≡ q + 2 + 1 = omega arith in e) in
    omega arith

pub integers_more : (bs : List ℕ) (p q i : ℕ) → q ≡ p + 4 * i →
    map integer_of (first_chunks 4 i (drop p bs)) ++ four bs q ∷ [] ≡ map integer_of (first_chunks 4 (i + 1) (drop p bs))
integers_more bs p q i e =
    let x : take 4 (drop (4 * i) (drop p bs)) ≡ take 4 (drop q bs) = ap (take 4) (drop-drop (4 * i) p bs ∙ ap (λ n. drop n bs) (sym e)) in
    let n : four bs q ≡ integer_of (take 4 (drop (4 * i) (drop p bs))) = sym (taken_four bs q) ∙ ap integer_of (sym x) in
    ap (λ m. map integer_of (first_chunks 4 i (drop p bs)) ++ m ∷ []) n ∙
    sym (map_push integer_of (first_chunks 4 i (drop p bs)) (take 4 (drop (4 * i) (drop p bs)))) ∙
    ap (map integer_of) (sym (chunks_push i (drop p bs))) ∙ ap (λ m. map integer_of (first_chunks 4 m (drop p bs))) (sym (add-one i))

chunks_taken : (n m : ℕ) (xs : List ℕ) → n ≤ m → take n (first_chunks 4 m xs) ≡ first_chunks 4 n xs
chunks_taken zero m xs l = refl
chunks_taken (suc n) zero xs l = absurd (omega arith)
chunks_taken (suc n) (suc m) xs l = ap (λ ys. take 4 xs ∷ ys) (chunks_taken n m (drop 4 xs) (omega arith))

pub fours_taken : (xs : List ℕ) (words : List (List ℕ)) (n : ℕ) → words ≡ first_chunks 4 (length xs / 4) xs → 4 * n ≤ length xs → take n words ≡ first_chunks 4 n xs
fours_taken xs words n w l =
    let k : n ≤ length xs / 4 = omega arith in
    ap (take n) w ∙ chunks_taken n (length xs / 4) xs k

pub fours_long : (n : ℕ) (xs : List ℕ) → length (first_chunks 4 n xs) ≡ n
fours_long zero xs = refl
fours_long (suc n) xs = ap suc (fours_long n (drop 4 xs))

-- four bytes are a word
taken_small : (n : ℕ) (xs : List ℕ) (j : ℕ) → ((i : ℕ) → get_or xs i 0 < 256) → get_or (take n xs) j 0 < 256
taken_small zero xs j h = let l : 0 < 256 = omega arith in l
taken_small (suc n) [] j h = let l : 0 < 256 = omega arith in l
taken_small (suc n) (x ∷ xs) zero h = h 0
taken_small (suc n) (x ∷ xs) (suc j) h = taken_small n xs j (λ i. h (suc i))

chunk_small : (n : ℕ) (xs : List ℕ) (k j : ℕ) → ((i : ℕ) → get_or xs i 0 < 256) → get_or (get_or (first_chunks 4 n xs) k []) j 0 < 256
chunk_small zero xs k j h = let l : 0 < 256 = omega arith in l
chunk_small (suc n) xs zero j h = taken_small 4 xs j h
chunk_small (suc n) xs (suc k) j h = chunk_small n (drop 4 xs) k j (λ i. subst (λ b. b < 256) (sym (get_or-drop 4 xs i 0)) (h (4 + i)))

pub words_small : (xs : List ℕ) (words : List (List ℕ)) (n k : ℕ) → words ≡ first_chunks 4 n xs → ((i : ℕ) → get_or xs i 0 < 256) → integer_of (get_or words k []) < 2 ^ 32
words_small xs words n k e h =
    let a = chunk_small n xs k 0 h in
    let b = chunk_small n xs k 1 h in
    let c = chunk_small n xs k 2 h in
    let d = chunk_small n xs k 3 h in
    subst (λ ws. integer_of (get_or ws k []) < 2 ^ 32) (sym e) (omega arith)

-- ## Functions

code_push : (es : List layout.FunctionEntry) (e : layout.FunctionEntry) → code_bytes (es ++ e ∷ []) ≡ code_bytes es + length e.code
code_push [] e = omega arith
code_push (g ∷ es) e = omega (arith, code_push es e)

pub code_more : (es fs : List layout.FunctionEntry) (e : FunctionEntry) (size : ℕ) → es ++ function_entry_of e ∷ [] ≡ fs → e.size ≤ length e.onward.now → code_bytes es ≡ size →
    code_bytes fs ≡ size + e.size
code_more es fs e size w l s =
    let n : length (take e.size e.onward.now) ≡ e.size = length-take-le e.size e.onward.now l in
    ap code_bytes (sym w) ∙ omega (arith, code_push es (function_entry_of e), s, n)

pub behind_less : (n m : ℕ) (es : List FunctionEntry) → m ≤ n → AllByRecursion (FunctionBehind n) es → AllByRecursion (FunctionBehind m) es
behind_less n m es l h = All-weaker (FunctionBehind n) (FunctionBehind m) (λ e k. omega arith) es h

-- ## The sheet: an element is written again, with its signature

abbrev pub no_function : Function
no_function =
    record {
      entry = record { arguments = 0; variables = 0; size = 0; onward = record { ref_ptr = (0, 0); now = [] } };
      signature = record { result_letter = 0; argument_letters = record { ref_ptr = (0, 0); now = [] } };
    }

abbrev pub no_native : Native
no_native = record { entry = record { arguments = 0; index = 0 }; signature = record { result_letter = 0; argument_letters = record { ref_ptr = (0, 0); now = [] } } }

-- as many letters are asked for as the entry counts
pub count_kept : {X Y Z : Type 0} (f : X → Y) (g : Y → Z) (n : Z → ℕ) (xs ys : List X) (i : ℕ) (d : X) → i < length xs → map f xs ≡ map f ys →
    get_or (map n (map g (map f ys))) i 0 ≡ n (g (f (get_or xs i d)))
count_kept f g n xs ys i d l e =
    let j : i < length (map f xs) = simp length-map l in
    let k : i < length (map g (map f xs)) = simp length-map l in
    ap (λ zs. get_or (map n (map g zs)) i 0) (sym e) ∙ get_or-map n (map g (map f xs)) i (g (f d)) 0 k ∙ ap n (get_or-map g (map f xs) i (f d) (g (f d)) j) ∙
    ap (λ y. n (g y)) (get_or-map f xs i d (f d) l)

pub kept_map : {X Y : Type 0} (f : X → Y) (xs ys : List X) (i : ℕ) (x d : X) → f x ≡ f (get_or xs i d) → map f xs ≡ map f ys → map f (set xs i x) ≡ map f ys
kept_map f xs ys i x d e h = map-set_same f xs i x d e ∙ h

pub kept_at : {X Y : Type 0} (f : X → Y) (P : Y → Type 0) (xs ys : List X) (i : ℕ) (d : X) → i < length xs → map f xs ≡ map f ys → AllByRecursion P (map f ys) → P (f (get_or xs i d))
kept_at f P xs ys i d l e h =
    let n : i < length (map f xs) = simp length-map l in
    subst P (get_or-map f xs i d (f d) l) (All-get_or P (map f xs) i (f d) n (subst (AllByRecursion P) (sym e) h))
