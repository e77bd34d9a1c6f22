-- What reading a batch tells, whatever names the size of the group and the bytes go by.
use Rattle.std.proofs.Common.{◌≡◌, ℕ, List, Ok, Err, Result, sym, ap, ◌∙◌, subst}
use Rattle.codec.specs.Chain.{map_ok, raise}
use Rattle.codec.specs.Batch.{IsBatch, ReadBatch, batch_of}
use Rattle.codec.specs.Tickets.{Tickets, listed}
use Rattle.codec.specs.declared.beds.Beds.{Beds}
use Rattle.codec.specs.declared.whole.Site.{Site}
use Rattle.codec.specs.declared.whole.SitedFault.{SitedFault}
use Rattle.codec.specs.declared.whole.WholeFault.{WholeFault}
use Rattle.group.proofs.Options.{raised_err, raised_ok}

abbrev pub at_site : Site → WholeFault → SitedFault
at_site site f = record { fault = f; site = site }

-- read, and its fault put to a site
pub record Sited (size n : Beds) (v bytes : List ℕ) (site : Site) (r : Result Tickets WholeFault) (o : Result Tickets SitedFault) : Type 0 where
  pub same_size : n ≡ size
  pub same_bytes : v ≡ bytes
  pub value : map_ok listed r ≡ batch_of n.count v
  pub sound : ReadBatch n.count v r
  pub sited : o ≡ raise (at_site site) r

pub sited_batch : (size n : Beds) (v bytes : List ℕ) (site : Site) (r : Result Tickets WholeFault) (o : Result Tickets SitedFault) (l : Tickets) → Sited size n v bytes site r o → o ≡ Ok l → IsBatch size.count bytes (listed l)
sited_batch size n v bytes site r o l h e =
    subst (λ (u : List ℕ). IsBatch size.count u (listed l)) h.same_bytes
    (subst (λ (k : Beds). IsBatch k.count v (listed l)) h.same_size (subst (ReadBatch n.count v) (raised_ok (at_site site) r l (sym h.sited ∙ e)) h.sound))

pub sited_fault : (size n : Beds) (v bytes : List ℕ) (site : Site) (r : Result Tickets WholeFault) (o : Result Tickets SitedFault) (e : SitedFault) → Sited size n v bytes site r o → o ≡ Err e →
    (f : WholeFault) × (batch_of size.count bytes ≡ Err f) × (e ≡ at_site site f)
sited_fault size n v bytes site r o e h x =
    let f = raised_err (at_site site) r e (sym h.sited ∙ x) in
    (f.0, ap (batch_of size.count) (sym h.same_bytes) ∙ ap (λ (k : Beds). batch_of k.count v) (sym h.same_size) ∙ sym h.value ∙ ap (map_ok listed) f.1, f.2)
