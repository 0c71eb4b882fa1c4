-- Sets of objects (document 01: sets of cards), said by membership of each object from 0 to 63.
use Rattle.std.specs.Prelude.{Bool, true, false, cond, not, ◌&&◌, ◌||◌, ℕ, zero, suc, ◌+◌, ◌/◌, ◌%◌, ◌^◌, eqb, ltb}
use Rattle.std.specs.Prelude.{Option, None, Some}
use Rattle.std.specs.Option.{option_map}

-- object d is in the set s: the digit of s whose mask (document 01: mark) is 2 to the power d is 1
unfoldable pub has : ℕ → ℕ → Bool
has s d = eqb (s / 2 ^ d % 2) 1

-- the set of those of the first n objects that pass the test f: the sum of their masks
unfoldable pub collect : ℕ → (ℕ → Bool) → ℕ
collect zero f = 0
collect (suc n) f = cond (f n) (2 ^ n) 0 + collect n f

-- one of the first n objects passes the test f
unfoldable pub some : ℕ → (ℕ → Bool) → Bool
some zero f = false
some (suc n) f = f n || some n f

-- each of the first n objects passes the test f
unfoldable pub each : ℕ → (ℕ → Bool) → Bool
each zero f = true
each (suc n) f = f n && each n f

-- the first of the first n objects that passes the test f, if one does
unfoldable pub first_passing : ℕ → (ℕ → Bool) → Option ℕ
first_passing zero f = None
first_passing (suc n) f = cond (f 0) (Some 0) (option_map suc (first_passing n (λ e. f (suc e))))

-- how many objects there are at most (document 01: 64 cards)
abbrev pub most_objects : ℕ
most_objects = 64

-- the mask of object d (document 01: its mark): 2 to the power d; of 64 and more, which are no objects, the empty set
unfoldable pub mask_of : ℕ → ℕ
mask_of d = cond (ltb d most_objects) (2 ^ d) 0

-- the empty set
unfoldable pub none : ℕ
none = collect most_objects (λ e. false)

-- no object is in the set
unfoldable pub is_empty : ℕ → Bool
is_empty s = not (some most_objects (has s))

-- the first object of the set, if it is not empty
unfoldable pub first_object : ℕ → Option ℕ
first_object s = first_passing most_objects (has s)

-- the set s with object d added
unfoldable pub added : ℕ → ℕ → ℕ
added s d = collect most_objects (λ e. has s e || eqb e d)

-- the set s without object d
unfoldable pub removed : ℕ → ℕ → ℕ
removed s d = collect most_objects (λ e. has s e && not (eqb e d))

-- the objects of both sets together
unfoldable pub joined : ℕ → ℕ → ℕ
joined a b = collect most_objects (λ e. has a e || has b e)

-- some object is in both sets
unfoldable pub meeting : ℕ → ℕ → Bool
meeting a b = some most_objects (λ e. has a e && has b e)

-- the set lies within the first n objects
unfoldable pub below : ℕ → ℕ → Bool
below s n = each most_objects (λ e. not (has s e) || ltb e n)
