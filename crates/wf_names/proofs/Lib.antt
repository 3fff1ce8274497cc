mod Changed
