-- What stands at an index of the program's lists.
use Rattle.std.proofs.Common.{◌≡◌, ℕ, ◌<◌, ◌≤◌, List, map, length, get_or, take, ap, ◌∙◌, subst, arith}
use Rattle.std.proofs.lemmas.List.{length-take-le, length-map, get_or-map, get_or-take}
use Rattle.std.specs.List.{All}

pub mapped_length : {X Y : Type 0} (f : X → Y) (xs : List X) (n : ℕ) → n ≤ length xs → length (map f (take n xs)) ≡ n
mapped_length f xs n l = length-map (take n xs) f ∙ length-take-le n xs l

-- the list is the front of an array, by what its elements stand for
pub front_at_lem : {X Y : Type 0} (f : X → Y) (xs : List X) (n i : ℕ) (d : X) (e : Y) → n ≤ length xs → i < n → get_or (map f (take n xs)) i e ≡ f (get_or xs i d)
front_at_lem f xs n i d e k l =
    let m : length (take n xs) ≡ n = length-take-le n xs k in
    get_or-map f (take n xs) i d e (omega arith) ∙ ap f (get_or-take n xs i d l)

pub all_at : {X : Type 0} (P : X → Type 0) (xs : List X) (n i : ℕ) (d : X) → n ≤ length xs → i < n → All P (take n xs) → P (get_or xs i d)
all_at P xs n i d k l h =
    let m : length (take n xs) ≡ n = length-take-le n xs k in
    subst P (get_or-take n xs i d l) (h i d (omega arith))

pub entry_at : {X Y : Type 0} (f : X → Y) (P : Y → Type 0) (xs : List X) (n i : ℕ) (d : X) → n ≤ length xs → i < n → All P (map f (take n xs)) → P (f (get_or xs i d))
entry_at f P xs n i d k l h =
    let m = mapped_length f xs n k in
    subst P (front_at_lem f xs n i d (f d) k l) (h i (f d) (omega arith))
