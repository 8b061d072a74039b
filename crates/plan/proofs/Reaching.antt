-- Reaching is an order of shapes; what two shapes become that meet is the first that both reach.
use Rattle.std.proofs.Common.{◌≡◌, ℕ, zero, suc, ◌+◌, ◌<◌, ◌≤◌, Bool, true, false, ◌&&◌, cond, ◌⊎◌, List, [], ◌∷◌, length, get_or, sym, refl, ap, ap₂, ◌∙◌, subst, inl, inr, true≢false, arith}
use Rattle.std.specs.Bool.{Decides}
use Rattle.std.specs.Cmp.Lexicographic.{pointwise, pointwise_decides}
use denote.Enum.Bare.{sameb}
use Rattle.bytecode.specs.contracts.kind.Kind.{the_type}
use Rattle.bytecode.specs.declared.kind.Kind.{Kind}
use Rattle.bytecode.specs.declared.kind.Kind.TheVariants.{Unknown, Word, Reference}
use Rattle.plan.specs.Programs.{AllKnown}
use Rattle.plan.specs.Shapes.{Shape, Alike, Reach, eq_kind, eq_kinds, meet_kind, meet, Sized, Merged, same, changed, clash, narrowed, merge_if, merge}

-- ## Equality

pub kind_decided : (k l : Kind) → Decides (eq_kind k l) (k ≡ l)
kind_decided Unknown Unknown = (λ e. refl, λ e. refl)
kind_decided Unknown Word = (λ e. cc, λ e. cc)
kind_decided Unknown Reference = (λ e. cc, λ e. cc)
kind_decided Word Unknown = (λ e. cc, λ e. cc)
kind_decided Word Word = (λ e. refl, λ e. refl)
kind_decided Word Reference = (λ e. cc, λ e. cc)
kind_decided Reference Unknown = (λ e. cc, λ e. cc)
kind_decided Reference Word = (λ e. cc, λ e. cc)
kind_decided Reference Reference = (λ e. refl, λ e. refl)

-- what `==` tells of two kinds, as they derive it
pub kind_told : (k l : Kind) → sameb the_type k l ≡ eq_kind k l
kind_told Unknown Unknown = refl
kind_told Unknown Word = refl
kind_told Unknown Reference = refl
kind_told Word Unknown = refl
kind_told Word Word = refl
kind_told Word Reference = refl
kind_told Reference Unknown = refl
kind_told Reference Word = refl
kind_told Reference Reference = refl

told_each : {A : Type 0} (E F : A → A → Bool) → ((x y : A) → E x y ≡ F x y) → (xs ys : List A) → pointwise E xs ys ≡ pointwise F xs ys
told_each E F h [] [] = refl
told_each E F h [] (y ∷ ys) = refl
told_each E F h (x ∷ xs) [] = refl
told_each E F h (x ∷ xs) (y ∷ ys) = ap₂ (λ a b. a && b) (h x y) (told_each E F h xs ys)

pub kinds_told : (ks ls : List Kind) → pointwise (sameb the_type) ks ls ≡ eq_kinds ks ls
kinds_told = told_each (sameb the_type) eq_kind kind_told

pub eq_kind-is : (k l : Kind) → eq_kind k l ≡ true → k ≡ l
eq_kind-is k l = (kind_decided k l).0

pub eq_kinds-is : (ks ls : List Kind) → eq_kinds ks ls ≡ true → ks ≡ ls
eq_kinds-is ks ls = (pointwise_decides kind_decided ks ls).0

pub eq_kind-refl : (k : Kind) → eq_kind k k ≡ true
eq_kind-refl k = (kind_decided k k).1 refl

pub eq_kinds-refl : (ks : List Kind) → eq_kinds ks ks ≡ true
eq_kinds-refl ks = (pointwise_decides kind_decided ks ks).1 refl

-- ## How many variables are known

abbrev pub one_if_known : Kind → ℕ
one_if_known Unknown = 0
one_if_known k = 1

abbrev pub known_count : List Kind → ℕ
known_count [] = 0
known_count (k ∷ ks) = one_if_known k + known_count ks

-- ## Alike and Reach are orders

alike_trans : (a b c : Kind) → Alike a b → Alike b c → Alike a c
alike_trans a b c p (inl e) = inl e
alike_trans a b c (inl d) (inr e) = inl (e ∙ d)
alike_trans a b c (inr d) (inr e) = inr (e ∙ d)

pub reach_refl : (x : Shape) → Reach x x
reach_refl x = record { stack = refl; size = refl; variables = λ i. inr refl }

pub reach_trans : (x y z : Shape) → Reach x y → Reach y z → Reach x z
reach_trans x y z p q = record { stack = p.stack ∙ q.stack; size = p.size ∙ q.size; variables = λ i. alike_trans _ _ _ (p.variables i) (q.variables i) }

-- ## Kinds met

meet_left : (k l : Kind) → Alike k (meet_kind k l)
meet_left k l = go (eq_kind k l)
  where
    go : (b : Bool) → Alike k (cond b k Unknown)
    go true = inr refl
    go false = inl refl

meet_right : (k l : Kind) → Alike l (meet_kind k l)
meet_right k l = go (eq_kind k l) refl
  where
    go : (b : Bool) → eq_kind k l ≡ b → Alike l (cond b k Unknown)
    go true e = inr ((kind_decided k l).0 e)
    go false e = inl refl

meet_self : (k : Kind) → meet_kind k k ≡ k
meet_self k = ap (λ b. cond b k Unknown) ((kind_decided k k).1 refl)

meet_none : (l : Kind) → meet_kind Unknown l ≡ Unknown
meet_none Unknown = refl
meet_none Word = refl
meet_none Reference = refl

meet_least : (k l m : Kind) → Alike k m → Alike l m → Alike (meet_kind k l) m
meet_least k l m (inl e) q = inl e
meet_least k l m (inr d) (inl e) = inl e
meet_least k l m (inr d) (inr e) = inr (sym (meet_self m) ∙ cc)

-- ## Lists of kinds

get_or-meet : (ks ls : List Kind) (i : ℕ) → get_or (meet ks ls) i Unknown ≡ meet_kind (get_or ks i Unknown) (get_or ls i Unknown)
get_or-meet [] ls i = sym (meet_none (get_or ls i Unknown))
get_or-meet (k ∷ ks) [] zero = refl
get_or-meet (k ∷ ks) [] (suc i) = get_or-meet ks [] i
get_or-meet (k ∷ ks) (l ∷ ls) zero = refl
get_or-meet (k ∷ ks) (l ∷ ls) (suc i) = get_or-meet ks ls i

pub length_meet : (ks ls : List Kind) → length (meet ks ls) ≡ length ks
length_meet [] ls = refl
length_meet (k ∷ ks) [] = ap suc (length_meet ks [])
length_meet (k ∷ ks) (l ∷ ls) = ap suc (length_meet ks ls)

-- what becomes of kinds that others meet: they stay, or fewer are known
abbrev Falls : List Kind → List Kind → Type 0
Falls ks ms = (ms ≡ ks) ⊎ (known_count ms < known_count ks)

abbrev FallsOne : Kind → Kind → Type 0
FallsOne k m = (m ≡ k) ⊎ (one_if_known m < one_if_known k)

falls_more : (k m : Kind) (ks ms : List Kind) → FallsOne k m → Falls ks ms → Falls (k ∷ ks) (m ∷ ms)
falls_more k m ks ms (inl e) (inl d) = inl (cc)
falls_more k m ks ms (inl e) (inr d) = inr (omega (arith, ap one_if_known e))
falls_more k m ks ms (inr e) (inl d) = inr (omega (arith, ap known_count d))
falls_more k m ks ms (inr e) (inr d) = inr (omega arith)

fall_none : (k : Kind) → FallsOne k Unknown
fall_none Unknown = inl refl
fall_none Word = inr (omega arith)
fall_none Reference = inr (omega arith)

fall : (k l : Kind) → FallsOne k (meet_kind k l)
fall k l = go (eq_kind k l)
  where
    go : (b : Bool) → FallsOne k (cond b k Unknown)
    go true = inl refl
    go false = fall_none k

falls : (ks ls : List Kind) → Falls ks (meet ks ls)
falls [] ls = inl refl
falls (k ∷ ks) [] = falls_more k (meet_kind k Unknown) ks (meet ks []) (fall k Unknown) (falls ks [])
falls (k ∷ ks) (l ∷ ls) = falls_more k (meet_kind k l) ks (meet ks ls) (fall k l) (falls ks ls)

-- ## Shapes met

abbrev pub Met : Shape → Shape → Merged → Type 0
Met s x same = Reach x s
Met s x (changed u) =
    Reach s u × Reach x u × (known_count u.variables < known_count s.variables) × ((t : Shape) → Reach s t → Reach x t → Reach u t)
Met s x clash = (t : Shape) → Reach s t → Reach x t → ⊥

pub met : (s x : Shape) → length s.variables ≡ length x.variables → Met s x (merge s x)
unfolding merge
met s x z = go (eq_kinds s.stack x.stack) refl
  where
    m : List Kind
    m = meet s.variables x.variables

    narrow : (b : Bool) → eq_kinds m s.variables ≡ b → s.stack ≡ x.stack → Met s x (narrowed s m b)
    narrow true d e =
        record {
          stack = sym e;
          size = sym z;
          variables = λ i.
              let h : get_or m i Unknown ≡ get_or s.variables i Unknown = ap (λ v. get_or v i Unknown) (eq_kinds-is _ _ d) in
              let g = get_or-meet s.variables x.variables i in
              rw (← h, g) (meet_right _ _);
        }
    narrow false d e = (
      record { stack = refl; size = sym (length_meet _ _); variables = λ i. rw get_or-meet (meet_left _ _) },
      record { stack = sym e; size = sym z ∙ sym (length_meet _ _); variables = λ i. rw get_or-meet (meet_right _ _) },
      less (falls s.variables x.variables),
      λ t p q. record { stack = p.stack; size = length_meet _ _ ∙ p.size; variables = λ i. rw get_or-meet (meet_least _ _ _ (p.variables i) (q.variables i)) },
    )
      where
        less : Falls s.variables m → known_count m < known_count s.variables
        less (inl h) = let z : true ≡ false = sym (eq_kinds-refl s.variables) ∙ (rw h at d) in absurd (true≢false z)
        less (inr h) = h

    go : (b : Bool) → eq_kinds s.stack x.stack ≡ b → Met s x (merge_if s x b)
    go true e = narrow (eq_kinds m s.variables) refl (eq_kinds-is _ _ e)
    go false e = λ t p q.
        let h : s.stack ≡ x.stack = p.stack ∙ sym q.stack in
        let z : true ≡ false = sym (eq_kinds-refl x.stack) ∙ (rw h at e) in
        true≢false z

-- ## Sizes

one_if_known_le : (k : Kind) → one_if_known k ≤ 1
one_if_known_le Unknown = omega arith
one_if_known_le Word = omega arith
one_if_known_le Reference = omega arith

known_count_bound : (V : ℕ) (ks : List Kind) → ((i : ℕ) → V ≤ i → get_or ks i Unknown ≡ Unknown) → known_count ks ≤ V
known_count_bound V [] h = omega arith
known_count_bound zero (k ∷ ks) h = let ih = known_count_bound zero ks (λ i l. h (suc i) (omega arith)) in omega (arith, ap one_if_known (h 0 (omega arith)))
known_count_bound (suc V) (k ∷ ks) h = let ih = known_count_bound V ks (λ i l. h (suc i) (omega arith)) in omega (arith, one_if_known_le k)

pub known_sized : (V : ℕ) (s : Shape) → Sized V s → known_count s.variables ≤ V
known_sized V s z = known_count_bound V s.variables z.unused

pub reach_sized : (V : ℕ) (s u : Shape) → Reach s u → Sized V s → Sized V u
reach_sized V s u r z =
    record {
      low = subst (λ st. length st ≤ 32) r.stack z.low;
      kinds = subst AllKnown r.stack z.kinds;
      long = sym r.size ∙ z.long;
      unused = λ i l. go i l (r.variables i);
    }
  where
    go : (i : ℕ) → V ≤ i → Alike (get_or s.variables i Unknown) (get_or u.variables i Unknown) → get_or u.variables i Unknown ≡ Unknown
    go i l (inl e) = e
    go i l (inr e) = e ∙ z.unused i l

-- ## Shapes that reach one another are equal

same_list : (xs ys : List Kind) → length xs ≡ length ys → ((i : ℕ) → get_or xs i Unknown ≡ get_or ys i Unknown) → xs ≡ ys
same_list [] [] l h = refl
same_list [] (y ∷ ys) l h = absurd (omega arith)
same_list (x ∷ xs) [] l h = absurd (omega arith)
same_list (x ∷ xs) (y ∷ ys) l h =
    let a : x ≡ y = h 0 in
    let b : xs ≡ ys = same_list xs ys (omega arith) (λ i. h (suc i)) in
    cc

alike_both : (k l : Kind) → Alike k l → Alike l k → k ≡ l
alike_both k l (inr e) q = sym e
alike_both k l (inl e) (inl d) = d ∙ sym e
alike_both k l (inl e) (inr d) = d

pub reach_both : (x y : Shape) → Reach x y → Reach y x → x ≡ y
reach_both x y p q =
    let v : x.variables ≡ y.variables = same_list _ _ p.size (λ i. alike_both _ _ (p.variables i) (q.variables i)) in
    λ i. record { stack = p.stack i; variables = v i }
