-- When a page is that of a snapshot.
use Rattle.std.specs.Prelude.{◌≡◌, length}
use Rattle.archive_cache.specs.Caches.{Caching}
use Rattle.history_core.specs.Snapshots.{Snapshot}
use Rattle.exporter.specs.declared.finishing.Page.{Page}
use Rattle.exporter.specs.Asks.{asks_of, loads_in}
use Rattle.exporter.specs.Pages.{checked_in, found_in, touched_in}

-- the page of this snapshot, made with a cache that was this one
pub record IsPage (x : Snapshot) (cache : Caching) (page : Page) : Type 0 where
  pub found : page.found ≡ found_in x
  pub past_to : page.past_to ≡ x.taking.past_to
  pub live_to : page.live_to ≡ x.taking.live_to
  pub again : page.again ≡ x.taking.again
  pub checked : page.checked ≡ checked_in x
  pub touched : page.touched ≡ length (touched_in x)
  pub loads : page.loads ≡ loads_in (asks_of (touched_in x)) cache
