-- Requests that are answered, one after the other.
use Rattle.std.proofs.Common.{◌≡◌, List, [], ◌∷◌, ◌++◌, refl, sym, ap, ◌∙◌, subst, append_assoc, append-nil}
use Rattle.http_server.specs.Exchange.{Call, Calls, Chain}
use Rattle.proxy_pages.specs.Answers.{IsAnswered}
use Rattle.proxy_pages.specs.declared.admin.Admin.{Admin}

chain_more : (a b c : Admin) (xs ys : List Call) → Chain IsAnswered a xs b → Chain IsAnswered b ys c → Chain IsAnswered a (xs ++ ys) c
chain_more a b c [] ys same rest = subst (λ (s : Admin). Chain IsAnswered s ys c) same rest
chain_more a b c (x ∷ xs) ys (next, first, others) rest = (next, first, chain_more next b c xs ys others rest)

-- nothing was answered yet
pub none_called : (a : Admin) (before after : List Call) → after ≡ before → Calls IsAnswered a a before after
none_called a before after same = ([], same ∙ sym (append-nil before), refl)

-- some requests, then others
pub more_called : (a b c : Admin) (before between after : List Call) → Calls IsAnswered a b before between
    → Calls IsAnswered b c between after → Calls IsAnswered a c before after
more_called a b c before between after (xs, first, chain) (ys, then, others) = (
  xs ++ ys,
  then ∙ ap (λ l. l ++ ys) first ∙ append_assoc before xs ys,
  chain_more a b c xs ys chain others,
)

-- and after that none
pub called_still : (a b : Admin) (before between after : List Call) → Calls IsAnswered a b before between → after ≡ between
    → Calls IsAnswered a b before after
called_still a b before between after (xs, first, chain) same = (xs, same ∙ first, chain)
