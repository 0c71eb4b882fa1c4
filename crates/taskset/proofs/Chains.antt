-- The groups are what paper 2 says: 'Two tasks that use a common card are in one group, and so on through chains; no others are.' Of any
-- tasks, known by their places in the list of their cards: two are in one group as worked out if and only if a chain joins them. Past the end
-- of the list there is no card, so a task there would be alone.
use mathlib.Core.Path.{◌≡◌, refl, sym, ap, subst, ◌∙◌}
use mathlib.Core.Bool.{Bool, true, false, cond}
use mathlib.Core.List.{List}
use Prim.Native.Nat.{ℕ, ◌<◌}
use native.Mathlib.Omega.{arith}
use lib.ListN.{length, length-map, get_or, get_or-append}
use Rattle.objset.specs.Objset.{has, none}
use Rattle.objset.specs.Words.{Words}
use Rattle.taskset.specs.declared.Task.{Task}
use Rattle.std.specs.Prelude.{Result, Ok, Err}
use Rattle.taskset.specs.declared.Groups.{Groups}
use Rattle.taskset.specs.declared.NotTasks.{NotTasks}
use Rattle.taskset.specs.Tasks.{cards_of, is_task_set, not_tasks}
use Rattle.taskset.specs.Groups.{groups_of, in_one_group, grouped, groups_given}
use Rattle.taskset.specs.Chains.{UsesNone, Shares, Chain, alone, onward, AreGroups, RightGroups}
use Rattle.taskset.proofs.ChainLaws.{and_then, back, from-none}
use Rattle.taskset.proofs.GroupLaws.{together, no_others, chain-has, has-chain, groups-length}

-- ---- groups as chains

module _ (cs : List ℕ) where
  -- each task is in its own group
  pub chain-self : (i : ℕ) → Chain cs i i
  chain-self i = alone

  pub chain-common : (i j : ℕ) → Shares cs i j → Chain cs i j
  chain-common i j s = onward s alone

  pub chain-symmetric : (i j : ℕ) → Chain cs i j → Chain cs j i
  chain-symmetric i j = back

  pub chain-transitive : (i j k : ℕ) → Chain cs i j → Chain cs j k → Chain cs i k
  chain-transitive i j k = and_then

  -- a task without cards is alone
  pub chain-alone : (i j : ℕ) → UsesNone cs i → Chain cs i j → i ≡ j
  chain-alone i j = from-none

module _ (cs : List ℕ) (words : Words cs) where
  -- ---- groups as worked out are the same

  -- two tasks that use a common card are in one group, and so on through chains
  pub chain-computed : (i j : ℕ) → Chain cs i j → in_one_group (groups_of cs) i j ≡ true
  chain-computed i j = together cs words

  -- no others are
  pub computed-chain : (i j : ℕ) → in_one_group (groups_of cs) i j ≡ true → Chain cs i j
  computed-chain = no_others cs words

  -- ---- so all of that holds of them too

  pub computed-self : (i : ℕ) → in_one_group (groups_of cs) i i ≡ true
  computed-self i = chain-computed i i (chain-self cs i)

  pub computed-common : (i j : ℕ) → Shares cs i j → in_one_group (groups_of cs) i j ≡ true
  computed-common i j s = chain-computed i j (chain-common cs i j s)

  pub computed-symmetric : (i j : ℕ) → in_one_group (groups_of cs) i j ≡ true → in_one_group (groups_of cs) j i ≡ true
  computed-symmetric i j e = chain-computed j i (chain-symmetric cs i j (computed-chain i j e))

  pub computed-transitive : (i j k : ℕ) → in_one_group (groups_of cs) i j ≡ true → in_one_group (groups_of cs) j k ≡ true → in_one_group (groups_of cs) i k ≡ true
  computed-transitive i j k e f = chain-computed i k (chain-transitive cs i j k (computed-chain i j e) (computed-chain j k f))

  pub computed-alone : (i j : ℕ) → UsesNone cs i → in_one_group (groups_of cs) i j ≡ true → i ≡ j
  computed-alone i j n e = chain-alone cs i j n (computed-chain i j e)

-- ---- the groups of tasks

module _ (ts : List Task) (words : Words (cards_of ts)) where
  abbrev cs : List ℕ
  cs = cards_of ts

  -- whatever hands back the groups of the tasks, keeps paper 2's sentence
  pub are-groups : (gs : List ℕ) → ((i : ℕ) → i < length ts → get_or gs i none ≡ get_or (groups_of cs) i none) → AreGroups ts gs
  unfolding in_one_group
  are-groups gs same = record {
    together = λ i j l k v. one-group i j l k ∙ chain-computed cs words i j v;
    no_others = λ i j l k e. computed-chain cs words i j (sym (one-group i j l k) ∙ e);
    whole = λ i j d l v p. rw (same i l) (chain-has cs words i j d v p);
    used = λ i d l p.
        let user = has-chain cs words i d (ap (λ (g : ℕ). has g d) (sym (same i l)) ∙ p) in
        (user.0, omega (arith, user.1, length-map ts (λ (t : Task). t.cards)), user.2, user.3);
  }
    where
      one-group : (i j : ℕ) → i < length ts → j < length ts → in_one_group gs i j ≡ in_one_group (groups_of cs) i j
      one-group i j l k = rw (same i l, same j k)

  given-right : RightGroups ts (groups_given ts)
  unfolding groups_given grouped
  given-right = go (is_task_set ts)
    where
      long : length (groups_of cs) ≡ length ts
      long = groups-length cs ∙ length-map ts _

      go : (b : Bool) → RightGroups ts (cond b (Ok (grouped (groups_of cs))) (Err not_tasks))
      go true = (long, are-groups _ (λ i l. get_or-append (groups_of cs) _ none i (omega (arith, l, long))))
      go false = tt

  -- what is answered by the rule keeps it
  pub right-groups : (r : Result Groups NotTasks) → r ≡ groups_given ts → RightGroups ts r
  right-groups r e = subst (RightGroups ts) (sym e) given-right

-- what is answered of a task set, and of what is none
pub groups-given : (ts : List Task) (b : Bool) → b ≡ is_task_set ts → groups_given ts ≡ cond b (Ok (grouped (groups_of (cards_of ts)))) (Err not_tasks)
unfolding groups_given
groups-given ts b e = rw e refl
