-- Which of a worker's clients is stalled, with the most bytes.
use Rattle.std.proofs.Common.{◌≡◌, ◌∙◌, ◌<◌, ◌≤◌, ◌+◌, ℕ, List, [], ◌∷◌, Option, Some, None, inl, inr, arith, length, refl, zero, suc}
use Rattle.std.specs.Prelude.{slice_index_or}
use Rattle.std.proofs.lemmas.Bool.{cases_eq, cases_lt}
use Rattle.slab.specs.Slab.{Slab, get}
use Rattle.proxy_connections.specs.WaitingOutput.{stalled_bytes}
use Rattle.proxy_connections.specs.WorkerConnections.{IsAt, IsMostBelow, IsMostStalled, NoneIsStalled}
use Rattle.proxy_connections.specs.declared.stalled.Stalled.{Stalled}
use Rattle.proxy_connections.specs.declared.client_connection.ClientConnection.{ClientConnection}

module _ (now : ℕ) (clients : Slab ClientConnection) where
  -- of no client
  pub most_of_none : IsMostBelow now clients 0 (record { key = 0; bytes = 0 })
  most_of_none = record {
    below = λ key client less there. absurd (omega (arith, less));
    there = λ some. absurd (omega (arith, some));
  }

  module _ (end : ℕ) (most : Stalled) (m : IsMostBelow now clients end most) where
    -- one key more, that has no client
    pub most_past : get clients end ≡ None → IsMostBelow now clients (end + 1) most
    most_past vacant = record {
      below = λ key client less there. elim (cases_eq key end) [
        | inl same ↦ absurd (let is : get clients end ≡ Some client = rw same at there in cc)
        | inr differs ↦ m.below key client (omega (arith, less, differs)) there
      ];
      there = m.there;
    }

    module _ (client : ClientConnection) (is : IsAt clients end client) where
      same_one : (one : ClientConnection) → IsAt clients end one → one ≡ client
      same_one one there = cc

      -- one key more, whose client has no more
      pub most_stays : stalled_bytes now client.waiting ≤ most.bytes → IsMostBelow now clients (end + 1) most
      most_stays few = record {
        below = λ key one less there. elim (cases_eq key end) [
          | inl same ↦ rw (same_one one (rw same at there)) few
          | inr differs ↦ m.below key one (omega (arith, less, differs)) there
        ];
        there = m.there;
      }

      -- one key more, whose client has more
      pub most_takes : most.bytes < stalled_bytes now client.waiting
          → IsMostBelow now clients (end + 1) (record { key = end; bytes = stalled_bytes now client.waiting })
      most_takes more = record {
        below = λ key one less there. elim (cases_eq key end) [
          | inl same ↦ rw (same_one one (rw same at there)) (omega arith)
          | inr differs ↦ let least = m.below key one (omega (arith, less, differs)) there in omega (arith, least, more)
        ];
        there = λ some. (client, is, refl);
      }

-- past all slots there is no client
vacant_past : (slots : List (Option ClientConnection)) (key : ℕ) → length slots ≤ key → slice_index_or slots key None ≡ None
vacant_past [] key past = refl
vacant_past (slot ∷ slots) zero past = absurd (omega (arith, past))
vacant_past (slot ∷ slots) (suc key) past = vacant_past slots key (omega (arith, past))

module _ (now : ℕ) (clients : Slab ClientConnection) (end : ℕ) (most : Stalled) (m : IsMostBelow now clients end most) (all : length clients.slots ≤ end) where
  within : (key : ℕ) (client : ClientConnection) → IsAt clients key client → stalled_bytes now client.waiting ≤ most.bytes
  within key client there = elim (cases_lt key end) [
    | inl less ↦ m.below key client less there
    | inr more ↦ absurd (let none : get clients key ≡ None = vacant_past clients.slots key (omega (arith, all, more)) in cc)
  ]

  pub none_is_stalled : most.bytes ≡ 0 → NoneIsStalled now clients
  none_is_stalled none key client there = let few = within key client there in omega (arith, few, none)

  pub is_most : (most.bytes ≡ 0 → ⊥) → IsMostStalled now clients most
  is_most some =
      let (client, there, is) = m.there (omega (arith, some)) in
      record {
        client = client;
        there = there;
        waits = is;
        is_stalled = omega (arith, some);
        most = within;
      }
